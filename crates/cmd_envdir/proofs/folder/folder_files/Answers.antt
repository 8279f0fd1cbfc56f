use Rattle.std.proofs.Common.{rules, ◌≡◌, ℕ, List, [], ◌∷◌, ◌++◌, map, Option, None, sym, ap, ◌∙◌, subst}
use Rattle.std.proofs.lemmas.List.{map-append, map-id}
use Rattle.std.proofs.lemmas.List.Elements.{All-nil, All-cons, All-append}
use Rattle.std.proofs.lemmas.Iterator.Adapters.{YieldsList-from_vec}
use Rattle.std.proofs.lemmas.Iterator.Consumers.{YieldsList-end}
use Rattle.std.specs.Prelude.{IfSome, string_bytes}
use Rattle.env_title.specs.Files.{File}
use Rattle.cmd_base.specs.Known.{IsKnown}
use Rattle.cmd_envdir.specs.Child.{AreInByteOrder}
use Rattle.cmd_envdir.specs.System.{AreHeld, IsUnread}
use Rattle.cmd_envdir.proofs.Children.{in_byte_order}
use Rattle.cmd_envdir.proofs.folder.folder_files.Goals as goal

pub returns : goal.returns
returns g c =
    let names = c.in_ok-name-items.name-items.items in
    let seen = YieldsList-end
    (YieldsList-from_vec {s = c.into_iter-name-iterator.result} names (search rules) (search rules))
    c.loop-name.yielded
    c.loop-name.name-iterator c.loop-name.yielded_by c.next.result c.next.new.self c.in-None.is c.next.ensures.steps in
    let all = sym (map-id c.loop-name.yielded) ∙ seen.0 in
    record {
      order = subst AreInByteOrder (sym (c.loop-name.invariant.0 ∙ ap (map string_bytes) all))
          (in_byte_order names c.in_ok-name-items.ensures.order);
      held = c.loop-name.invariant.1;
      file = tt;
    }

pub loop-name-preserved : goal.loop-name-preserved
loop-name-preserved g c =
    let file_at = g.R.FileSource.file_at c.args.rt.now in
    let dir = c.args.dir.now in
    let IsHeld : File → Type 0 = λ file. IsKnown (file_at (dir ++ 47 ∷ file.name)) file.bytes in
    let path = c.as_str-in-loop-name.ensures.value ∙ c.in_ok-path.ensures
    ∙ ap (λ (n : List ℕ). dir ++ 47 ∷ n) c.as_str.ensures.value in
    let known = subst (λ (p : List ℕ). IsKnown (file_at p) c.in-Ok.bytes.items) path c.in-Ok.ensures.known in
    let file : File = record { name = string_bytes c.in-Some.name; bytes = c.in-Ok.bytes.items } in
    let more : AreHeld file_at dir (c.loop-name.files.items ++ file ∷ []) =
    All-append IsHeld c.loop-name.files.items (file ∷ []) c.loop-name.invariant.1
    (All-cons IsHeld file [] known (All-nil IsHeld)) in
    let named = ap (map (λ (f : File). f.name)) c.in_ok-push_file-in-Ok.ensures
    ∙ map-append (λ (f : File). f.name) c.loop-name.files.items (file ∷ [])
    ∙ ap (λ (ns : List (List ℕ)). ns ++ file.name ∷ []) c.loop-name.invariant.0
    ∙ sym (map-append string_bytes c.loop-name.yielded (c.in-Some.name ∷ [])) in
    (named, subst (AreHeld file_at dir) (sym c.in_ok-push_file-in-Ok.ensures) more)

pub returns-in-Err-clause-file : goal.returns-in-Err-clause-file
returns-in-Err-clause-file g c =
    let file_at = g.R.FileSource.file_at c.args.rt.now in
    let dir = c.args.dir.now in
    let at : string_bytes c.in_ok-path.path ≡ dir ++ 47 ∷ string_bytes c.in-Some.name = c.in_ok-path.ensures
    ∙ ap (λ (n : List ℕ). dir ++ 47 ∷ n) c.as_str.ensures.value in
    let lost : IsUnread c.of_file.result (file_at (string_bytes c.in_ok-path.path)) = λ room.
    subst (λ (p : List ℕ). file_at p ≡ None) c.as_str-in-loop-name.ensures.value
    (c.in-Err.ensures.missing (λ none. room (c.of_file.ensures.cause ∙ c.cause_in.ensures.memory none))) in
    subst (λ (file : Option (List ℕ)). IfSome file (λ path. ((name : List ℕ) × (path ≡ dir ++ 47 ∷ name))
    × IsUnread c.of_file.result (file_at path))) (sym c.of_file.ensures.file)
    ((string_bytes c.in-Some.name, at), lost)

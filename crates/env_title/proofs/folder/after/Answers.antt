use Rattle.std.proofs.Common.{◌≡◌, ◌+◌, ◌∷◌, drop, sym, ap, rules, ◌∙◌, true, false}
use Rattle.std.proofs.lemmas.List.{drop_all}
use Rattle.env_title.specs.Files.{is_hidden, env_after}
use Rattle.env_title.proofs.Faulty.{none_parts}
use Rattle.env_title.proofs.Steps.{file_and_rest, env_after-hidden, env_after-visible, env_after-nothing}
use Rattle.env_title.proofs.folder.after.Goals as goal
use Rattle.env_title.proofs.folder.after.Goals.{then-not-is_hidden+in_ok-put_file, else-not-is_hidden}

pub loop-file-preserved : goal.loop-file-preserved
loop-file-preserved g c =
    let rest = drop (c.loop-file.file-index + 1) c.args.files.now in
    let cut : drop c.loop-file.file-index c.args.files.now ≡ c.file-item.result ∷ rest =
    file_and_rest c.args.files.now c.loop-file.file-index c.file-item.result c.loop-file-test.true c.file-item.is in
    let before : env_after (c.file-item.result ∷ rest) c.loop-file.new ≡ env_after c.args.files.now c.args.env.now =
    ap (λ files. env_after files c.loop-file.new) (sym cut) ∙ c.loop-file.invariant.environment in
    record {
      good = (none_parts c.loop-file.file-index c.file-item.result rest (rw cut at c.loop-file.invariant.good)).1;
      environment = elim c.if-not-is_hidden.branch [
        | then-not-is_hidden+in_ok-put_file w ↦
            let visible : is_hidden c.file-item.result ≡ false = search rules in
            rw w.new-is (rw w.in_ok-put_file.ensures
            (sym (env_after-visible c.file-item.result rest c.loop-file.new visible) ∙ before))
        | else-not-is_hidden w ↦
            let hidden : is_hidden c.file-item.result ≡ true = search rules in
            rw w.new-is (sym (env_after-hidden c.file-item.result rest c.loop-file.new hidden) ∙ before)
      ];
    }

pub returns-clause-ok : goal.returns-clause-ok
returns-clause-ok g c =
    let end = drop_all c.loop-file.file-index c.args.files.now c.loop-file-test.false in
    sym (env_after-nothing c.loop-file.new) ∙ ap (λ files. env_after files c.loop-file.new) (sym end)
    ∙ c.loop-file.invariant.environment

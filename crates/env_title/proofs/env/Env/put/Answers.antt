use Rattle.std.proofs.Common.{◌≡◌, ap, rules, string_bytes}
use Rattle.std.specs.Prelude.{not}
use Rattle.std.proofs.lemmas.Fn.{filter_same}
use Rattle.env_title.specs.Env.{is_named, without, put}
use Rattle.env_title.proofs.Distinct.{distinct-put}
use Rattle.env_title.proofs.env.Env.put.Goals as goal

pub invariant_of-self-2 : goal.invariant_of-self-2
invariant_of-self-2 g c =
    let left : c.retain.new.self.items ≡ without c.reserve.new.self.items (string_bytes c.args.name) =
    filter_same _ (λ variable. not (is_named (string_bytes c.args.name) variable)) _ (λ x b f' k. search rules) _ _
    c.retain.ensures.filtered in
    rw (c.push_reserved.ensures.items, left, c.in_ok-reserve.ensures.items)
    (distinct-put _ (string_bytes c.args.name) (string_bytes c.args.value) c.self.invariant)

pub returns-clause-ok : goal.returns-clause-ok
returns-clause-ok g c =
    let left : c.retain.new.self.items ≡ without c.reserve.new.self.items (string_bytes c.args.name) =
    filter_same _ (λ variable. not (is_named (string_bytes c.args.name) variable)) _ (λ x b f' k. search rules) _ _
    c.retain.ensures.filtered in
    rw (c.push_reserved.ensures.items, left, c.in_ok-reserve.ensures.items)
    (ap (λ env. put env (string_bytes c.args.name) (string_bytes c.args.value)) c.self.view_is)

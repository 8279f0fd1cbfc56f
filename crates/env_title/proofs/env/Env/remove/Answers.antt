use Rattle.std.proofs.Common.{◌≡◌, ◌∙◌, ap, rules}
use Rattle.std.specs.Prelude.{not}
use Rattle.std.proofs.lemmas.Fn.{filter_same}
use Rattle.env_title.specs.Env.{is_named, without}
use Rattle.env_title.proofs.Distinct.{distinct-without}
use Rattle.env_title.proofs.env.Env.remove.Goals as goal

pub invariant_of-self : goal.invariant_of-self
invariant_of-self g c =
    let left : c.retain.new.self.items ≡ without c.self.inside.variables.items c.args.name.now =
    filter_same _ (λ variable. not (is_named c.args.name.now variable)) _ (λ x b f' k. search rules) _ _
    c.retain.ensures.filtered in
    rw left (distinct-without _ _ c.self.invariant)

pub returns : goal.returns
returns g c =
    let left : c.retain.new.self.items ≡ without c.self.inside.variables.items c.args.name.now =
    filter_same _ (λ variable. not (is_named c.args.name.now variable)) _ (λ x b f' k. search rules) _ _
    c.retain.ensures.filtered in
    left ∙ ap (λ env. without env c.args.name.now) c.self.view_is

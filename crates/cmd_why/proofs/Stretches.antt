-- One more entry.
use Rattle.std.proofs.Common.{◌≡◌, ℕ, Bool, List, ◌∷◌, ◌++◌, append_assoc, ap, sym, ◌∙◌}
use Rattle.sup_core.specs.State.{State}
use Rattle.sup_core.specs.declared.event.Event.{Event}
use Rattle.cmd_why.specs.Timeline.{behind, ended_with, label_in, stepped, stretches}
use Rattle.cmd_why.specs.declared.timeline.Stretch.{Stretch}

pub entry-drawn : (now : ℕ) (leads : Bool) (state after : State) (last more : Stretch) (event : Event)
    (rest : List Event)
    (drawn grown : List Stretch) → after ≡ stepped state event → more ≡ behind now last (label_in event) after
    → grown ≡ drawn ++ ended_with now last (label_in event)
    → drawn ++ stretches now leads state last (event ∷ rest) ≡ grown ++ stretches now leads after more rest
entry-drawn now leads state after last more event rest drawn grown stepped_is more_is grown_is =
    let ended = ended_with now last (label_in event) in
    let behind_is = more_is ∙ ap (λ (s : State). behind now last (label_in event) s) stepped_is in
    sym (append_assoc drawn ended
    (stretches now leads (stepped state event) (behind now last (label_in event) (stepped state event)) rest))
    ∙ ap (λ (l : Stretch). (drawn ++ ended) ++ stretches now leads (stepped state event) l rest) (sym behind_is)
    ∙ ap (λ (s : State). (drawn ++ ended) ++ stretches now leads s more rest) (sym stepped_is)
    ∙ ap (λ (d : List Stretch). d ++ stretches now leads after more rest) (sym grown_is)

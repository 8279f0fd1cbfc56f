use Rattle.std.proofs.Common.{◌∙◌, ◌++◌, ap, sym, append_assoc, List, ℕ}
use Rattle.std.specs.Prelude.{codes, string_bytes}
use Rattle.std.proofs.lemmas.Result.{on_ok_weaker}
use Rattle.cmd_why.specs.Sentences.{sent_sentence, signal_end}
use Rattle.cmd_why.proofs.sentences.push_sent.Goals as goal

pub returns-in_ok-push_str-in-Some : goal.returns-in_ok-push_str-in-Some
returns-in_ok-push_str-in-Some g c =
    let old = string_bytes c.args.out.now in
    let end = signal_end c.in-Some.byte in
    let pushed = c.in_ok-push_str-in-Some.ensures.bytes in
    on_ok_weaker c.push_signal.result (λ e. e ∙ ap (λ (t : List ℕ). t ++ end) pushed
    ∙ append_assoc old (codes " It was sent ") end
    ∙ ap (λ (s : _). old ++ sent_sentence s) (sym c.in-Some.is)) c.push_signal.ensures

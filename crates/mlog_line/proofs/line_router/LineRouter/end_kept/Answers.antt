use Rattle.std.proofs.lemmas.Result.{on_ok_weaker}
use Rattle.mlog_line.proofs.Taking.{if_err_weaker}
use Rattle.mlog_line.proofs.Handing.{kept_end_grows, kept_end_stopped}
use Rattle.mlog_line.proofs.line_router.LineRouter.end_kept.Goals as goal

pub returns : goal.returns
returns g c =
    let decides = c.decide.ensures.decides in
    record {
      grows = on_ok_weaker c.decide.result
          (λ k line at. kept_end_grows c.args.script.now c.args.self.now c.args.label.now line _ _ c.requires.kept k at)
          decides.takes;
      stopped = if_err_weaker c.decide.result _ _
          (λ why k line at. kept_end_stopped c.args.script.now c.args.self.now c.args.label.now line _ _ why
          c.requires.kept k at) decides.stopped;
      serves = decides.serves;
      stays = decides.stays;
    }

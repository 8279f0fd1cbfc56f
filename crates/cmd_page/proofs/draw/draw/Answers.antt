use Rattle.std.proofs.Common.{rules, ◌≡◌, ◌++◌}
use Rattle.tai_status.specs.Words.{texts}
use Rattle.cmd_page.specs.Escape.{escaped}
use Rattle.cmd_page.specs.Page.{end_text, head_text, heading_text}
use Rattle.cmd_page.specs.PageEnds.{Draws, DrawsNone}
use Rattle.cmd_page.proofs.Grown.{all-looked, drawn, none-looked}
use Rattle.cmd_page.proofs.draw.draw.Goals as goal

pub returns-in_err-clone-clause-err : goal.returns-in_err-clone-clause-err
returns-in_err-clone-clause-err g c =
    let none = none-looked (texts c.args.folders.now) c.args.observer.now c.read_clock-now.new.observer
    c.read_clock-now.result c.read_clock-now.ensures in
    search (rules, none)

pub returns-in_err-push_head-clause-err : goal.returns-in_err-push_head-clause-err
returns-in_err-push_head-clause-err g c =
    let none = none-looked (texts c.args.folders.now) c.args.observer.now c.read_clock-now.new.observer
    c.read_clock-now.result c.read_clock-now.ensures in
    search (rules, none)

pub returns-in_err-add_rows-clause-err : goal.returns-in_err-add_rows-clause-err
returns-in_err-add_rows-clause-err g c =
    let none : DrawsNone (texts c.args.folders.now) c.args.observer.now c.add_rows.new.observer = record {
      now = c.read_clock-now.result;
      middle = c.read_clock-now.new.observer;
      read = c.read_clock-now.ensures;
      finds = c.in_err-add_rows.ensures.err;
    } in
    search (rules, none)

pub returns-in_err-push_end-clause-err : goal.returns-in_err-push_end-clause-err
returns-in_err-push_end-clause-err g c =
    let known = g.K.Evidence.known c.args.sources.now in
    let none = all-looked known (texts c.args.folders.now) c.args.observer.now c.read_clock-now.new.observer
    c.add_rows.new.observer c.read_clock-now.result c.push_head.new.out.items c.add_rows.new.page.items
    c.read_clock-now.ensures c.in_ok-add_rows.ensures.ok in
    search (rules, none)

pub returns-clause-ok : goal.returns-clause-ok
returns-clause-ok g c =
    let known = g.K.Evidence.known c.args.sources.now in
    let time = c.local_time-time.result.bytes in
    let done = c.in_ok-add_rows.ensures.ok in
    let head : c.push_head.new.out.items ≡ head_text ++ escaped time ++ heading_text = search rules in
    let page : c.push_end.new.out.items ≡ c.add_rows.new.page.items ++ end_text = search rules in
    let draws : Draws known (texts c.args.folders.now) c.args.observer.now c.add_rows.new.observer
    c.push_end.new.out.items = record {
      now = c.read_clock-now.result;
      middle = c.read_clock-now.new.observer;
      time = time;
      rows = done.rows;
      read = c.read_clock-now.ensures;
      time_is = c.local_time-time.ensures;
      finds = done.finds;
      are = done.are;
      text = drawn time c.read_clock-now.result done.rows c.push_head.new.out.items c.add_rows.new.page.items
          c.push_end.new.out.items head done.text page;
    } in
    search (rules, draws)

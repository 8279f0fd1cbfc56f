use Rattle.std.proofs.Common.{Some, ◌∙◌, ap, sym}
use Rattle.svc_door.proofs.table.Table.admit.Goals as goal

pub returns-in-Ok-clause-admitted : goal.returns-in-Ok-clause-admitted
returns-in-Ok-clause-admitted c =
    let watched = c.watch.ensures in
    let begun = c.new-part.ensures in
    record {
      slot = c.insert_reserved.result;
      part = c.watch.new.part;
      begins = record {
        number = watched.number ∙ begun.number;
        sender = watched.sender ∙ begun.sender;
        due = watched.due ∙ begun.due;
        sockets = (watched.sockets.0 ∙ begun.listeners.0, watched.sockets.1 ∙ begun.listeners.1);
        watched = (
          c.in-Ok.ensures.watched.0 ∙ ap Some (sym watched.token),
          c.in-Ok.ensures.watched.1 ∙ ap Some (sym watched.token),
        );
        connection = watched.connection ∙ begun.connection;
      };
      token = ap (λ token. token.0) (watched.token ∙ begun.token) ∙ c.vacant_key.ensures.value ∙ sym watched.vacant
          ∙ sym c.insert_reserved.ensures.key;
      was_free = sym (watched.parts c.insert_reserved.result) ∙ c.insert_reserved.ensures.was_vacant;
      has = c.insert_reserved.ensures.updates.changed;
      others = λ other apart. c.insert_reserved.ensures.updates.others other apart ∙ watched.parts other;
    }

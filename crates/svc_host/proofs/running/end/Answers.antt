use Rattle.std.proofs.Common.{rules}
use Rattle.svc_station.specs.Ends.{station}
use Rattle.svc_host.proofs.OneReader.{all_one}
use Rattle.svc_host.proofs.running.end.Goals as goal

pub end-requires : goal.end-requires
end-requires g c =
    let status_reader = c.args.status_reader in
    all_one (station c.args.writer) _ status_reader.room.items status_reader.reader status_reader.empty
    c.push_reserved.ensures.items c.requires status_reader.first (search rules)

-- How a part begins, by what its maker hands out.
use Rattle.std.specs.Prelude.{Result, Ok, Err}
use Rattle.svc_record.specs.declared.opening.Opening.{Opening}
use Rattle.svc_host.specs.declared.maker.PartFault.{PartFault}
use Rattle.svc_host.specs.declared.maker.PartResources.{PartResources}

abbrev pub begins_as : {W G A : Type 0} → Result (PartResources W G A) PartFault → Result Opening PartFault
begins_as (Ok resources) = Ok resources.opening
begins_as (Err fault) = Err fault

-- What is found in two lists of parts, one after the other, is what is found in each.
use Rattle.std.proofs.Common.{◌≡◌, List, ◌++◌, ap, ◌∙◌}
use Rattle.std.specs.Prelude.{not, filter, map}
use Rattle.std.proofs.lemmas.List.Elements.{filter-append}
use Rattle.std.proofs.lemmas.List.{map-append}
use Rattle.svc_host.specs.Parts.{HostPart, has_loss, losses_in, running_ids}

pub running_splits : (front back : List HostPart) → running_ids (front ++ back) ≡ running_ids front ++ running_ids back
running_splits front back =
    let runs = λ (part : HostPart). not part.has_ended in
    ap (map (λ (part : HostPart). part.id)) (filter-append runs front back)
    ∙ map-append (λ (part : HostPart). part.id) (filter runs front) (filter runs back)

pub losses_split : (front back : List HostPart) → losses_in (front ++ back) ≡ losses_in front ++ losses_in back
losses_split front back =
    let lost = λ (part : HostPart). has_loss part.loss in
    ap (map (λ (part : HostPart). (part.id, part.loss))) (filter-append lost front back)
    ∙ map-append (λ (part : HostPart). (part.id, part.loss)) (filter lost front) (filter lost back)

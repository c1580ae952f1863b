-- A member of a committee is at one place.
use Rattle.std.proofs.Common.{◌∙◌, [], ap, get_or}
use Rattle.std.specs.Prelude.{Some}
use Rattle.std.proofs.lemmas.List.{get_or_default}
use Rattle.std.proofs.lemmas.Option.{slice_get-get_or}
use Rattle.commonware_c.proofs.Made.{one_place}
use Rattle.commonware_c.proofs.round_trips.keys.own_index.Goals as goal

pub returns : goal.returns
returns c =
    let members = c.args.members.now in
    let position = c.args.position in
    let key = get_or members position [] in
    let index = c.commonware_committee_position.result.index in
    let place = c.commonware_committee_position.ensures in
    let status = (place.exactly c.requires.strict).1 (position, c.requires.within, get_or_default members position key [] c.requires.within) in
    let found = place.found status in (
      status,
      one_place members c.requires.strict index position key (slice_get-get_or members index [] found.0 ∙ ap Some (found.1 []))
          (slice_get-get_or members position [] c.requires.within),
    )

use Rattle.committee_certificates.proofs.walk.write_both_counted.Goals as goal

pub returns-clause-least : goal.returns-clause-least
returns-clause-least g c = λ one two first second.
    c.write_common.ensures.least one two first.strict second.strict (c.first_place.ensures.at one first) (c.first_place-2.ensures.at two second)

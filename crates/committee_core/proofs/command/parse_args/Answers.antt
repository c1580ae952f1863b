use Rattle.std.proofs.Common.{◌≡◌, rules, codes, refl, sym}
use Rattle.std.specs.String.{string_bytes}
use Rattle.program_io.proofs.OneWord.{one_word}
use Rattle.committee_core.proofs.Words.{two_words, no_command, one_command}
use Rattle.std.proofs.Common.{arith}
use Rattle.std.proofs.lemmas.Grind.{common_steps}
use Rattle.committee_core.proofs.command.parse_args.Goals as goal

pub returns-in-len1-clause-asked : goal.returns-in-len1-clause-asked
returns-in-len1-clause-asked g c =
    let is_read : string_bytes c.word-item.result ≡ codes "read" = search rules in
    one_word string_bytes c.args.words.now c.word-item.result _ c.in-len1.len_at_least c.in-len1.len_below c.word-item.is is_read

pub returns-in_err-parse_count-in-len2-clause-given : goal.returns-in_err-parse_count-in-len2-clause-given
returns-in_err-parse_count-in-len2-clause-given g c =
    let words = two_words string_bytes _ _ _ _ _ c.in-len2.len_at_least c.in-len2.len_below c.word-item-then-words-lt3.is c.count-item.is refl (sym c.as_str-in-len2.ensures.value) in
    λ command asked. absurd (no_command _ _ _ words c.in_err-parse_count-in-len2.ensures.other command asked)

pub returns-in_err-parse_count-in-len2-clause-other : goal.returns-in_err-parse_count-in-len2-clause-other
returns-in_err-parse_count-in-len2-clause-other g c =
    let words = two_words string_bytes _ _ _ _ _ c.in-len2.len_at_least c.in-len2.len_below c.word-item-then-words-lt3.is c.count-item.is refl (sym c.as_str-in-len2.ensures.value) in
    rw c.from_residual.ensures (no_command _ _ _ words c.in_err-parse_count-in-len2.ensures.other)

pub returns-in_ok-parse_count-in-len2-clause-asked : goal.returns-in_ok-parse_count-in-len2-clause-asked
returns-in_ok-parse_count-in-len2-clause-asked g c =
    let is_bounds : string_bytes c.word-item-then-words-lt3.result ≡ codes "bounds" = search rules in
    let words = two_words string_bytes _ _ _ _ _ c.in-len2.len_at_least c.in-len2.len_below c.word-item-then-words-lt3.is c.count-item.is is_bounds (sym c.as_str-in-len2.ensures.value) in
    (_, words, c.in_ok-parse_count-in-len2.ensures.count)

pub returns-in_ok-parse_count-in-len2-clause-given : goal.returns-in_ok-parse_count-in-len2-clause-given
returns-in_ok-parse_count-in-len2-clause-given g c =
    let is_bounds : string_bytes c.word-item-then-words-lt3.result ≡ codes "bounds" = search rules in
    let words = two_words string_bytes _ _ _ _ _ c.in-len2.len_at_least c.in-len2.len_below c.word-item-then-words-lt3.is c.count-item.is is_bounds (sym c.as_str-in-len2.ensures.value) in
    one_command _ _ _ words c.in_ok-parse_count-in-len2.ensures.count

pub returns-in-len1-clause-given : goal.returns-in-len1-clause-given
returns-in-len1-clause-given g c = grind (arith, common_steps)

pub returns-in_default-clause-given : goal.returns-in_default-clause-given
returns-in_default-clause-given g c = grind (arith, common_steps)

pub returns-in_default-clause-other : goal.returns-in_default-clause-other
returns-in_default-clause-other g c = grind (arith, common_steps)

pub returns-in_default-2-clause-given : goal.returns-in_default-2-clause-given
returns-in_default-2-clause-given g c = grind (arith, common_steps)

pub returns-in_default-2-clause-other : goal.returns-in_default-2-clause-other
returns-in_default-2-clause-other g c = grind (arith, common_steps)

pub returns-in_default-3-clause-given : goal.returns-in_default-3-clause-given
returns-in_default-3-clause-given g c = grind (arith, common_steps)

pub returns-in_default-3-clause-other : goal.returns-in_default-3-clause-other
returns-in_default-3-clause-other g c = grind (arith, common_steps)

pub returns-in_default-4-clause-given : goal.returns-in_default-4-clause-given
returns-in_default-4-clause-given g c = grind (arith, common_steps)

pub returns-in_default-4-clause-other : goal.returns-in_default-4-clause-other
returns-in_default-4-clause-other g c = grind (arith, common_steps)

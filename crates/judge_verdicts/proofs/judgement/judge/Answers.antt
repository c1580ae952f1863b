-- Each arm is the judgement of its type, whose values are seen as lists, maps and numbers.
use Rattle.std.specs.Ordering.{nat_cmp}
use Rattle.commonware_utils.specs.Codec.{as_numbers}
use Rattle.judge_questions.specs.declared.form.Form.TheVariants.{U8, U32, U64, Varint, Usize, Participant, Member, VecU8, VecU32, VecU64}
use Rattle.judge_questions.specs.declared.form.Form.TheVariants.{VecVecU8, VecVecVecU8, SetU8, SetU32, SetParticipant, SetMember}
use Rattle.judge_questions.specs.declared.form.Form.TheVariants.{SetBytes20, SetBytes33, SetBytes48, SetBytes96, SetSetU8, SetNonEmptyU8}
use Rattle.judge_questions.specs.declared.form.Form.TheVariants.{MapU8U8, MapU8SetU8, MapMemberU8, MapMemberU64, VecMapU8U8, BiMapU8U8}
use Rattle.judge_questions.specs.declared.form.Form.TheVariants.{BiMapMemberMember, NonEmptyU8, NonEmptyNonEmptyU8, Certificate}
use Rattle.judge_verdicts.specs.Readings.{a_byte, a_certificate, a_u64, a_varint, a_word, list_of, map_of}
use Rattle.judge_verdicts.proofs.Judged.{a_uint, certificate_read, judged_along, same_limits, sees_certificate, sees_uint}
use Rattle.judge_verdicts.proofs.Seen.{judged_seen, sees_itself, sees_list, vec_of_items}
use Rattle.judge_verdicts.proofs.judgement.judge.Goals as goal

pub returns-in-U8 : goal.returns-in-U8
returns-in-U8 g c =
    let limits = same_limits c.args.limits.now c.range-first.result c.range-second.result c.range-third.result c.range-first.ensures c.range-second.ensures c.range-third.ensures in
    judged_along c.args.form U8 c.args.limits.now _ c.args.text.now c.judge_as.result c.in-U8.is limits (c.judge_as.ensures)

pub returns-in-U32 : goal.returns-in-U32
returns-in-U32 g c =
    let limits = same_limits c.args.limits.now c.range-first.result c.range-second.result c.range-third.result c.range-first.ensures c.range-second.ensures c.range-third.ensures in
    judged_along c.args.form U32 c.args.limits.now _ c.args.text.now c.judge_as-in-U32.result c.in-U32.is limits (c.judge_as-in-U32.ensures)

pub returns-in-U64 : goal.returns-in-U64
returns-in-U64 g c =
    let limits = same_limits c.args.limits.now c.range-first.result c.range-second.result c.range-third.result c.range-first.ensures c.range-second.ensures c.range-third.ensures in
    judged_along c.args.form U64 c.args.limits.now _ c.args.text.now c.judge_as-in-U64.result c.in-U64.is limits (c.judge_as-in-U64.ensures)

pub returns-in-Varint : goal.returns-in-Varint
returns-in-Varint g c =
    let limits = same_limits c.args.limits.now c.range-first.result c.range-second.result c.range-third.result c.range-first.ensures c.range-second.ensures c.range-third.ensures in
    judged_along c.args.form Varint c.args.limits.now _ c.args.text.now c.judge_as-in-Varint.result c.in-Varint.is limits (judged_seen a_uint a_varint sees_uint c.args.text.now c.judge_as-in-Varint.result c.judge_as-in-Varint.ensures)

pub returns-in-Usize : goal.returns-in-Usize
returns-in-Usize g c =
    let limits = same_limits c.args.limits.now c.range-first.result c.range-second.result c.range-third.result c.range-first.ensures c.range-second.ensures c.range-third.ensures in
    judged_along c.args.form Usize c.args.limits.now _ c.args.text.now c.judge_as-in-Usize.result c.in-Usize.is limits (c.judge_as-in-Usize.ensures)

pub returns-in-Participant : goal.returns-in-Participant
returns-in-Participant g c =
    let limits = same_limits c.args.limits.now c.range-first.result c.range-second.result c.range-third.result c.range-first.ensures c.range-second.ensures c.range-third.ensures in
    judged_along c.args.form Participant c.args.limits.now _ c.args.text.now c.judge_as-in-Participant.result c.in-Participant.is limits (c.judge_as-in-Participant.ensures)

pub returns-in-Member : goal.returns-in-Member
returns-in-Member g c =
    let limits = same_limits c.args.limits.now c.range-first.result c.range-second.result c.range-third.result c.range-first.ensures c.range-second.ensures c.range-third.ensures in
    judged_along c.args.form Member c.args.limits.now _ c.args.text.now c.judge_as-in-Member.result c.in-Member.is limits (c.judge_as-in-Member.ensures)

pub returns-in-VecU8 : goal.returns-in-VecU8
returns-in-VecU8 g c =
    let limits = same_limits c.args.limits.now c.range-first.result c.range-second.result c.range-third.result c.range-first.ensures c.range-second.ensures c.range-third.ensures in
    judged_along c.args.form VecU8 c.args.limits.now _ c.args.text.now c.judge_as-in-VecU8.result c.in-VecU8.is limits (judged_seen (vec_of_items _ c.range-first.result (a_byte)) (list_of c.range-first.result (a_byte)) (sees_list (a_byte) (a_byte) (sees_itself a_byte) c.args.alloc c.range-first.result) c.args.text.now c.judge_as-in-VecU8.result c.judge_as-in-VecU8.ensures)

pub returns-in-VecU32 : goal.returns-in-VecU32
returns-in-VecU32 g c =
    let limits = same_limits c.args.limits.now c.range-first.result c.range-second.result c.range-third.result c.range-first.ensures c.range-second.ensures c.range-third.ensures in
    judged_along c.args.form VecU32 c.args.limits.now _ c.args.text.now c.judge_as-in-VecU32.result c.in-VecU32.is limits (judged_seen (vec_of_items _ c.range-first.result (a_word)) (list_of c.range-first.result (a_word)) (sees_list (a_word) (a_word) (sees_itself a_word) c.args.alloc c.range-first.result) c.args.text.now c.judge_as-in-VecU32.result c.judge_as-in-VecU32.ensures)

pub returns-in-VecU64 : goal.returns-in-VecU64
returns-in-VecU64 g c =
    let limits = same_limits c.args.limits.now c.range-first.result c.range-second.result c.range-third.result c.range-first.ensures c.range-second.ensures c.range-third.ensures in
    judged_along c.args.form VecU64 c.args.limits.now _ c.args.text.now c.judge_as-in-VecU64.result c.in-VecU64.is limits (judged_seen (vec_of_items _ c.range-first.result (a_u64)) (list_of c.range-first.result (a_u64)) (sees_list (a_u64) (a_u64) (sees_itself a_u64) c.args.alloc c.range-first.result) c.args.text.now c.judge_as-in-VecU64.result c.judge_as-in-VecU64.ensures)

pub returns-in-VecVecU8 : goal.returns-in-VecVecU8
returns-in-VecVecU8 g c =
    let limits = same_limits c.args.limits.now c.range-first.result c.range-second.result c.range-third.result c.range-first.ensures c.range-second.ensures c.range-third.ensures in
    judged_along c.args.form VecVecU8 c.args.limits.now _ c.args.text.now c.judge_as-in-VecVecU8.result c.in-VecVecU8.is limits (judged_seen (vec_of_items _ c.range-first.result (vec_of_items _ c.range-second.result a_byte)) (list_of c.range-first.result (list_of c.range-second.result a_byte)) (sees_list (vec_of_items _ c.range-second.result a_byte) (list_of c.range-second.result a_byte) (sees_list a_byte a_byte (sees_itself a_byte) c.args.alloc c.range-second.result) c.args.alloc c.range-first.result) c.args.text.now c.judge_as-in-VecVecU8.result c.judge_as-in-VecVecU8.ensures)

pub returns-in-VecVecVecU8 : goal.returns-in-VecVecVecU8
returns-in-VecVecVecU8 g c =
    let limits = same_limits c.args.limits.now c.range-first.result c.range-second.result c.range-third.result c.range-first.ensures c.range-second.ensures c.range-third.ensures in
    judged_along c.args.form VecVecVecU8 c.args.limits.now _ c.args.text.now c.judge_as-in-VecVecVecU8.result c.in-VecVecVecU8.is limits (judged_seen (vec_of_items _ c.range-first.result (vec_of_items _ c.range-second.result (vec_of_items _ c.range-third.result a_byte))) (list_of c.range-first.result (list_of c.range-second.result (list_of c.range-third.result a_byte))) (sees_list (vec_of_items _ c.range-second.result (vec_of_items _ c.range-third.result a_byte)) (list_of c.range-second.result (list_of c.range-third.result a_byte)) (sees_list (vec_of_items _ c.range-third.result a_byte) (list_of c.range-third.result a_byte) (sees_list a_byte a_byte (sees_itself a_byte) c.args.alloc c.range-third.result) c.args.alloc c.range-second.result) c.args.alloc c.range-first.result) c.args.text.now c.judge_as-in-VecVecVecU8.result c.judge_as-in-VecVecVecU8.ensures)

pub returns-in-SetU8 : goal.returns-in-SetU8
returns-in-SetU8 g c =
    let limits = same_limits c.args.limits.now c.range-first.result c.range-second.result c.range-third.result c.range-first.ensures c.range-second.ensures c.range-third.ensures in
    judged_along c.args.form SetU8 c.args.limits.now _ c.args.text.now c.judge_as-in-SetU8.result c.in-SetU8.is limits (c.judge_as-in-SetU8.ensures)

pub returns-in-SetU32 : goal.returns-in-SetU32
returns-in-SetU32 g c =
    let limits = same_limits c.args.limits.now c.range-first.result c.range-second.result c.range-third.result c.range-first.ensures c.range-second.ensures c.range-third.ensures in
    judged_along c.args.form SetU32 c.args.limits.now _ c.args.text.now c.judge_as-in-SetU32.result c.in-SetU32.is limits (c.judge_as-in-SetU32.ensures)

pub returns-in-SetParticipant : goal.returns-in-SetParticipant
returns-in-SetParticipant g c =
    let limits = same_limits c.args.limits.now c.range-first.result c.range-second.result c.range-third.result c.range-first.ensures c.range-second.ensures c.range-third.ensures in
    judged_along c.args.form SetParticipant c.args.limits.now _ c.args.text.now c.judge_as-in-SetParticipant.result c.in-SetParticipant.is limits (c.judge_as-in-SetParticipant.ensures)

pub returns-in-SetMember : goal.returns-in-SetMember
returns-in-SetMember g c =
    let limits = same_limits c.args.limits.now c.range-first.result c.range-second.result c.range-third.result c.range-first.ensures c.range-second.ensures c.range-third.ensures in
    judged_along c.args.form SetMember c.args.limits.now _ c.args.text.now c.judge_as-in-SetMember.result c.in-SetMember.is limits (c.judge_as-in-SetMember.ensures)

pub returns-in-SetBytes20 : goal.returns-in-SetBytes20
returns-in-SetBytes20 g c =
    let limits = same_limits c.args.limits.now c.range-first.result c.range-second.result c.range-third.result c.range-first.ensures c.range-second.ensures c.range-third.ensures in
    judged_along c.args.form SetBytes20 c.args.limits.now _ c.args.text.now c.judge_as-in-SetBytes20.result c.in-SetBytes20.is limits (c.judge_as-in-SetBytes20.ensures)

pub returns-in-SetBytes33 : goal.returns-in-SetBytes33
returns-in-SetBytes33 g c =
    let limits = same_limits c.args.limits.now c.range-first.result c.range-second.result c.range-third.result c.range-first.ensures c.range-second.ensures c.range-third.ensures in
    judged_along c.args.form SetBytes33 c.args.limits.now _ c.args.text.now c.judge_as-in-SetBytes33.result c.in-SetBytes33.is limits (c.judge_as-in-SetBytes33.ensures)

pub returns-in-SetBytes48 : goal.returns-in-SetBytes48
returns-in-SetBytes48 g c =
    let limits = same_limits c.args.limits.now c.range-first.result c.range-second.result c.range-third.result c.range-first.ensures c.range-second.ensures c.range-third.ensures in
    judged_along c.args.form SetBytes48 c.args.limits.now _ c.args.text.now c.judge_as-in-SetBytes48.result c.in-SetBytes48.is limits (c.judge_as-in-SetBytes48.ensures)

pub returns-in-SetBytes96 : goal.returns-in-SetBytes96
returns-in-SetBytes96 g c =
    let limits = same_limits c.args.limits.now c.range-first.result c.range-second.result c.range-third.result c.range-first.ensures c.range-second.ensures c.range-third.ensures in
    judged_along c.args.form SetBytes96 c.args.limits.now _ c.args.text.now c.judge_as-in-SetBytes96.result c.in-SetBytes96.is limits (c.judge_as-in-SetBytes96.ensures)

pub returns-in-SetSetU8 : goal.returns-in-SetSetU8
returns-in-SetSetU8 g c =
    let limits = same_limits c.args.limits.now c.range-first.result c.range-second.result c.range-third.result c.range-first.ensures c.range-second.ensures c.range-third.ensures in
    judged_along c.args.form SetSetU8 c.args.limits.now _ c.args.text.now c.judge_as-in-SetSetU8.result c.in-SetSetU8.is limits (c.judge_as-in-SetSetU8.ensures)

pub returns-in-SetNonEmptyU8 : goal.returns-in-SetNonEmptyU8
returns-in-SetNonEmptyU8 g c =
    let limits = same_limits c.args.limits.now c.range-first.result (as_numbers c.non_zero-second.result) c.range-third.result c.range-first.ensures c.non_zero-second.ensures c.range-third.ensures in
    judged_along c.args.form SetNonEmptyU8 c.args.limits.now _ c.args.text.now c.judge_as-in-SetNonEmptyU8.result c.in-SetNonEmptyU8.is limits (c.judge_as-in-SetNonEmptyU8.ensures)

pub returns-in-MapU8U8 : goal.returns-in-MapU8U8
returns-in-MapU8U8 g c =
    let limits = same_limits c.args.limits.now c.range-first.result c.range-second.result c.range-third.result c.range-first.ensures c.range-second.ensures c.range-third.ensures in
    judged_along c.args.form MapU8U8 c.args.limits.now _ c.args.text.now c.judge_as-in-MapU8U8.result c.in-MapU8U8.is limits (c.judge_as-in-MapU8U8.ensures)

pub returns-in-MapU8SetU8 : goal.returns-in-MapU8SetU8
returns-in-MapU8SetU8 g c =
    let limits = same_limits c.args.limits.now c.range-first.result c.range-second.result c.range-third.result c.range-first.ensures c.range-second.ensures c.range-third.ensures in
    judged_along c.args.form MapU8SetU8 c.args.limits.now _ c.args.text.now c.judge_as-in-MapU8SetU8.result c.in-MapU8SetU8.is limits (c.judge_as-in-MapU8SetU8.ensures)

pub returns-in-MapMemberU8 : goal.returns-in-MapMemberU8
returns-in-MapMemberU8 g c =
    let limits = same_limits c.args.limits.now c.range-first.result c.range-second.result c.range-third.result c.range-first.ensures c.range-second.ensures c.range-third.ensures in
    judged_along c.args.form MapMemberU8 c.args.limits.now _ c.args.text.now c.judge_as-in-MapMemberU8.result c.in-MapMemberU8.is limits (c.judge_as-in-MapMemberU8.ensures)

pub returns-in-MapMemberU64 : goal.returns-in-MapMemberU64
returns-in-MapMemberU64 g c =
    let limits = same_limits c.args.limits.now c.range-first.result c.range-second.result c.range-third.result c.range-first.ensures c.range-second.ensures c.range-third.ensures in
    judged_along c.args.form MapMemberU64 c.args.limits.now _ c.args.text.now c.judge_as-in-MapMemberU64.result c.in-MapMemberU64.is limits (c.judge_as-in-MapMemberU64.ensures)

pub returns-in-VecMapU8U8 : goal.returns-in-VecMapU8U8
returns-in-VecMapU8U8 g c =
    let limits = same_limits c.args.limits.now c.range-first.result c.range-second.result c.range-third.result c.range-first.ensures c.range-second.ensures c.range-third.ensures in
    judged_along c.args.form VecMapU8U8 c.args.limits.now _ c.args.text.now c.judge_as-in-VecMapU8U8.result c.in-VecMapU8U8.is limits (judged_seen (vec_of_items _ c.range-first.result (map_of c.range-second.result a_byte nat_cmp a_byte)) (list_of c.range-first.result (map_of c.range-second.result a_byte nat_cmp a_byte)) (sees_list (map_of c.range-second.result a_byte nat_cmp a_byte) (map_of c.range-second.result a_byte nat_cmp a_byte) (sees_itself (map_of c.range-second.result a_byte nat_cmp a_byte)) c.args.alloc c.range-first.result) c.args.text.now c.judge_as-in-VecMapU8U8.result c.judge_as-in-VecMapU8U8.ensures)

pub returns-in-BiMapU8U8 : goal.returns-in-BiMapU8U8
returns-in-BiMapU8U8 g c =
    let limits = same_limits c.args.limits.now c.range-first.result c.range-second.result c.range-third.result c.range-first.ensures c.range-second.ensures c.range-third.ensures in
    judged_along c.args.form BiMapU8U8 c.args.limits.now _ c.args.text.now c.judge_as-in-BiMapU8U8.result c.in-BiMapU8U8.is limits (c.judge_as-in-BiMapU8U8.ensures)

pub returns-in-BiMapMemberMember : goal.returns-in-BiMapMemberMember
returns-in-BiMapMemberMember g c =
    let limits = same_limits c.args.limits.now c.range-first.result c.range-second.result c.range-third.result c.range-first.ensures c.range-second.ensures c.range-third.ensures in
    judged_along c.args.form BiMapMemberMember c.args.limits.now _ c.args.text.now c.judge_as-in-BiMapMemberMember.result c.in-BiMapMemberMember.is limits (c.judge_as-in-BiMapMemberMember.ensures)

pub returns-in-NonEmptyU8 : goal.returns-in-NonEmptyU8
returns-in-NonEmptyU8 g c =
    let limits = same_limits c.args.limits.now (as_numbers c.non_zero-first.result) c.range-second.result c.range-third.result c.non_zero-first.ensures c.range-second.ensures c.range-third.ensures in
    judged_along c.args.form NonEmptyU8 c.args.limits.now _ c.args.text.now c.judge_as-in-NonEmptyU8.result c.in-NonEmptyU8.is limits (c.judge_as-in-NonEmptyU8.ensures)

pub returns-in-NonEmptyNonEmptyU8 : goal.returns-in-NonEmptyNonEmptyU8
returns-in-NonEmptyNonEmptyU8 g c =
    let limits = same_limits c.args.limits.now (as_numbers c.non_zero-first-in-NonEmptyNonEmptyU8.result) (as_numbers c.non_zero-second-in-NonEmptyNonEmptyU8.result) c.range-third.result c.non_zero-first-in-NonEmptyNonEmptyU8.ensures c.non_zero-second-in-NonEmptyNonEmptyU8.ensures c.range-third.ensures in
    judged_along c.args.form NonEmptyNonEmptyU8 c.args.limits.now _ c.args.text.now c.judge_as-in-NonEmptyNonEmptyU8.result c.in-NonEmptyNonEmptyU8.is limits (c.judge_as-in-NonEmptyNonEmptyU8.ensures)

pub returns-in-Certificate : goal.returns-in-Certificate
returns-in-Certificate g c =
    let limits = same_limits c.args.limits.now c.range-first.result c.range-second.result c.range-third.result c.range-first.ensures c.range-second.ensures c.range-third.ensures in
    judged_along c.args.form Certificate c.args.limits.now _ c.args.text.now c.judge_as-in-Certificate.result c.in-Certificate.is limits (judged_seen (certificate_read _ c.range-first.result c.range-second.result) (a_certificate c.range-first.result c.range-second.result) (sees_certificate c.args.alloc c.range-first.result c.range-second.result) c.args.text.now c.judge_as-in-Certificate.result c.judge_as-in-Certificate.ensures)

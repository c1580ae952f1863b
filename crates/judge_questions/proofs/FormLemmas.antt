-- Each type is in the list of the types.
use Rattle.std.proofs.Common.{◌≡◌, ℕ, ◌<◌, get_or, refl, arith}
use Rattle.judge_questions.specs.Forms.{all_forms}
use Rattle.judge_questions.specs.declared.form.Form.{Form}
use Rattle.judge_questions.specs.declared.form.Form.TheVariants.{U8, U32, U64, Varint, Usize, Participant, Member}
use Rattle.judge_questions.specs.declared.form.Form.TheVariants.{VecU8, VecU32, VecU64, VecVecU8, VecVecVecU8, SetU8}
use Rattle.judge_questions.specs.declared.form.Form.TheVariants.{SetU32, SetParticipant, SetMember, SetBytes20}
use Rattle.judge_questions.specs.declared.form.Form.TheVariants.{SetBytes33, SetBytes48, SetBytes96, SetSetU8}
use Rattle.judge_questions.specs.declared.form.Form.TheVariants.{SetNonEmptyU8, MapU8U8, MapU8SetU8, MapMemberU8}
use Rattle.judge_questions.specs.declared.form.Form.TheVariants.{MapMemberU64, VecMapU8U8, BiMapU8U8}
use Rattle.judge_questions.specs.declared.form.Form.TheVariants.{BiMapMemberMember, NonEmptyU8, NonEmptyNonEmptyU8}
use Rattle.judge_questions.specs.declared.form.Form.TheVariants.{Certificate}

-- its place in the list
abbrev pub place_in_forms : Form → ℕ
place_in_forms U8 = 0
place_in_forms U32 = 1
place_in_forms U64 = 2
place_in_forms Varint = 3
place_in_forms Usize = 4
place_in_forms Participant = 5
place_in_forms Member = 6
place_in_forms VecU8 = 7
place_in_forms VecU32 = 8
place_in_forms VecU64 = 9
place_in_forms VecVecU8 = 10
place_in_forms VecVecVecU8 = 11
place_in_forms SetU8 = 12
place_in_forms SetU32 = 13
place_in_forms SetParticipant = 14
place_in_forms SetMember = 15
place_in_forms SetBytes20 = 16
place_in_forms SetBytes33 = 17
place_in_forms SetBytes48 = 18
place_in_forms SetBytes96 = 19
place_in_forms SetSetU8 = 20
place_in_forms SetNonEmptyU8 = 21
place_in_forms MapU8U8 = 22
place_in_forms MapU8SetU8 = 23
place_in_forms MapMemberU8 = 24
place_in_forms MapMemberU64 = 25
place_in_forms VecMapU8U8 = 26
place_in_forms BiMapU8U8 = 27
place_in_forms BiMapMemberMember = 28
place_in_forms NonEmptyU8 = 29
place_in_forms NonEmptyNonEmptyU8 = 30
place_in_forms Certificate = 31

-- it is at its place
pub listed : (form : Form) → get_or all_forms (place_in_forms form) U8 ≡ form
listed U8 = refl
listed U32 = refl
listed U64 = refl
listed Varint = refl
listed Usize = refl
listed Participant = refl
listed Member = refl
listed VecU8 = refl
listed VecU32 = refl
listed VecU64 = refl
listed VecVecU8 = refl
listed VecVecVecU8 = refl
listed SetU8 = refl
listed SetU32 = refl
listed SetParticipant = refl
listed SetMember = refl
listed SetBytes20 = refl
listed SetBytes33 = refl
listed SetBytes48 = refl
listed SetBytes96 = refl
listed SetSetU8 = refl
listed SetNonEmptyU8 = refl
listed MapU8U8 = refl
listed MapU8SetU8 = refl
listed MapMemberU8 = refl
listed MapMemberU64 = refl
listed VecMapU8U8 = refl
listed BiMapU8U8 = refl
listed BiMapMemberMember = refl
listed NonEmptyU8 = refl
listed NonEmptyNonEmptyU8 = refl
listed Certificate = refl

-- which is inside
pub place_inside : (form : Form) → place_in_forms form < 32
place_inside U8 = omega arith
place_inside U32 = omega arith
place_inside U64 = omega arith
place_inside Varint = omega arith
place_inside Usize = omega arith
place_inside Participant = omega arith
place_inside Member = omega arith
place_inside VecU8 = omega arith
place_inside VecU32 = omega arith
place_inside VecU64 = omega arith
place_inside VecVecU8 = omega arith
place_inside VecVecVecU8 = omega arith
place_inside SetU8 = omega arith
place_inside SetU32 = omega arith
place_inside SetParticipant = omega arith
place_inside SetMember = omega arith
place_inside SetBytes20 = omega arith
place_inside SetBytes33 = omega arith
place_inside SetBytes48 = omega arith
place_inside SetBytes96 = omega arith
place_inside SetSetU8 = omega arith
place_inside SetNonEmptyU8 = omega arith
place_inside MapU8U8 = omega arith
place_inside MapU8SetU8 = omega arith
place_inside MapMemberU8 = omega arith
place_inside MapMemberU64 = omega arith
place_inside VecMapU8U8 = omega arith
place_inside BiMapU8U8 = omega arith
place_inside BiMapMemberMember = omega arith
place_inside NonEmptyU8 = omega arith
place_inside NonEmptyNonEmptyU8 = omega arith
place_inside Certificate = omega arith

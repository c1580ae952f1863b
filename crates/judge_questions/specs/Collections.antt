-- The types that builders make of items in any order.
use Rattle.std.specs.Prelude.{Option, Some, None}
use Rattle.judge_questions.specs.declared.collection.Collection.{Collection}
use Rattle.judge_questions.specs.declared.collection.Collection.TheVariants as collections
use Rattle.judge_questions.specs.declared.collection.SetForm.{SetForm}
use Rattle.judge_questions.specs.declared.collection.SetForm.TheVariants as sets
use Rattle.judge_questions.specs.declared.form.Form.{Form}
use Rattle.judge_questions.specs.declared.form.Form.TheVariants.{SetU8, SetU32, SetParticipant, SetMember, SetBytes20}
use Rattle.judge_questions.specs.declared.form.Form.TheVariants.{SetBytes33, SetBytes48, SetBytes96, SetSetU8}
use Rattle.judge_questions.specs.declared.form.Form.TheVariants.{SetNonEmptyU8, MapU8U8, MapU8SetU8, MapMemberU8}
use Rattle.judge_questions.specs.declared.form.Form.TheVariants.{MapMemberU64, BiMapU8U8, BiMapMemberMember}

-- a set's type by its items
abbrev pub set_form_of : Form → Option SetForm
set_form_of SetU8 = Some sets.U8
set_form_of SetU32 = Some sets.U32
set_form_of SetParticipant = Some sets.Participant
set_form_of SetMember = Some sets.Member
set_form_of SetBytes20 = Some sets.Bytes20
set_form_of SetBytes33 = Some sets.Bytes33
set_form_of SetBytes48 = Some sets.Bytes48
set_form_of SetBytes96 = Some sets.Bytes96
set_form_of SetSetU8 = Some sets.SetU8
set_form_of SetNonEmptyU8 = Some sets.NonEmptyU8
set_form_of _ = None

-- a type that a builder makes
abbrev pub collection_of : Form → Option Collection
collection_of SetU8 = Some (collections.Set sets.U8)
collection_of SetU32 = Some (collections.Set sets.U32)
collection_of SetParticipant = Some (collections.Set sets.Participant)
collection_of SetMember = Some (collections.Set sets.Member)
collection_of SetBytes20 = Some (collections.Set sets.Bytes20)
collection_of SetBytes33 = Some (collections.Set sets.Bytes33)
collection_of SetBytes48 = Some (collections.Set sets.Bytes48)
collection_of SetBytes96 = Some (collections.Set sets.Bytes96)
collection_of SetSetU8 = Some (collections.Set sets.SetU8)
collection_of SetNonEmptyU8 = Some (collections.Set sets.NonEmptyU8)
collection_of MapU8U8 = Some collections.MapU8U8
collection_of MapU8SetU8 = Some collections.MapU8SetU8
collection_of MapMemberU8 = Some collections.MapMemberU8
collection_of MapMemberU64 = Some collections.MapMemberU64
collection_of BiMapU8U8 = Some collections.BiMapU8U8
collection_of BiMapMemberMember = Some collections.BiMapMemberMember
collection_of _ = None

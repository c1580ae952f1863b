-- The names of the types, and how many ranges each has.
use Rattle.std.specs.Prelude.{ℕ, List, [], ◌∷◌, ◌++◌, codes}
use Rattle.std.specs.List.{flat_map}
use Rattle.judge_questions.specs.declared.form.Form.{Form}
use Rattle.judge_questions.specs.declared.form.Form.TheVariants.{U8, U32, U64, Varint, Usize, Participant, Member}
use Rattle.judge_questions.specs.declared.form.Form.TheVariants.{VecU8, VecU32, VecU64, VecVecU8, VecVecVecU8, SetU8}
use Rattle.judge_questions.specs.declared.form.Form.TheVariants.{SetU32, SetParticipant, SetMember, SetBytes20}
use Rattle.judge_questions.specs.declared.form.Form.TheVariants.{SetBytes33, SetBytes48, SetBytes96, SetSetU8}
use Rattle.judge_questions.specs.declared.form.Form.TheVariants.{SetNonEmptyU8, MapU8U8, MapU8SetU8, MapMemberU8}
use Rattle.judge_questions.specs.declared.form.Form.TheVariants.{MapMemberU64, VecMapU8U8, BiMapU8U8}
use Rattle.judge_questions.specs.declared.form.Form.TheVariants.{BiMapMemberMember, NonEmptyU8, NonEmptyNonEmptyU8}
use Rattle.judge_questions.specs.declared.form.Form.TheVariants.{Certificate}

-- the name by which a question names a type
abbrev pub name_of : Form → List ℕ
name_of U8 = codes "u8"
name_of U32 = codes "u32"
name_of U64 = codes "u64"
name_of Varint = codes "varint"
name_of Usize = codes "usize"
name_of Participant = codes "participant"
name_of Member = codes "member"
name_of VecU8 = codes "vec<u8>"
name_of VecU32 = codes "vec<u32>"
name_of VecU64 = codes "vec<u64>"
name_of VecVecU8 = codes "vec<vec<u8>>"
name_of VecVecVecU8 = codes "vec<vec<vec<u8>>>"
name_of SetU8 = codes "set<u8>"
name_of SetU32 = codes "set<u32>"
name_of SetParticipant = codes "set<participant>"
name_of SetMember = codes "set<member>"
name_of SetBytes20 = codes "set<bytes20>"
name_of SetBytes33 = codes "set<bytes33>"
name_of SetBytes48 = codes "set<bytes48>"
name_of SetBytes96 = codes "set<bytes96>"
name_of SetSetU8 = codes "set<set<u8>>"
name_of SetNonEmptyU8 = codes "set<non-empty<u8>>"
name_of MapU8U8 = codes "map<u8,u8>"
name_of MapU8SetU8 = codes "map<u8,set<u8>>"
name_of MapMemberU8 = codes "map<member,u8>"
name_of MapMemberU64 = codes "map<member,u64>"
name_of VecMapU8U8 = codes "vec<map<u8,u8>>"
name_of BiMapU8U8 = codes "bimap<u8,u8>"
name_of BiMapMemberMember = codes "bimap<member,member>"
name_of NonEmptyU8 = codes "non-empty<u8>"
name_of NonEmptyNonEmptyU8 = codes "non-empty<non-empty<u8>>"
name_of Certificate = codes "certificate"

-- how many ranges a question gives for a type
abbrev pub lengths_of : Form → ℕ
lengths_of U8 = 0
lengths_of U32 = 0
lengths_of U64 = 0
lengths_of Varint = 0
lengths_of Usize = 1
lengths_of Participant = 0
lengths_of Member = 0
lengths_of VecU8 = 1
lengths_of VecU32 = 1
lengths_of VecU64 = 1
lengths_of VecVecU8 = 2
lengths_of VecVecVecU8 = 3
lengths_of SetU8 = 1
lengths_of SetU32 = 1
lengths_of SetParticipant = 1
lengths_of SetMember = 1
lengths_of SetBytes20 = 1
lengths_of SetBytes33 = 1
lengths_of SetBytes48 = 1
lengths_of SetBytes96 = 1
lengths_of SetSetU8 = 2
lengths_of SetNonEmptyU8 = 2
lengths_of MapU8U8 = 1
lengths_of MapU8SetU8 = 2
lengths_of MapMemberU8 = 1
lengths_of MapMemberU64 = 1
lengths_of VecMapU8U8 = 2
lengths_of BiMapU8U8 = 1
lengths_of BiMapMemberMember = 1
lengths_of NonEmptyU8 = 1
lengths_of NonEmptyNonEmptyU8 = 2
lengths_of Certificate = 2

-- the ranges that a question gives for a type, a word each after a space: what each is the range of
abbrev pub ranges_of : Form → List ℕ
ranges_of U8 = []
ranges_of U32 = []
ranges_of U64 = []
ranges_of Varint = []
ranges_of Usize = codes " NUMBER"
ranges_of Participant = []
ranges_of Member = []
ranges_of VecU8 = codes " LENGTH"
ranges_of VecU32 = codes " LENGTH"
ranges_of VecU64 = codes " LENGTH"
ranges_of VecVecU8 = codes " LENGTH ITEM-LENGTH"
ranges_of VecVecVecU8 = codes " LENGTH ITEM-LENGTH INNER-LENGTH"
ranges_of SetU8 = codes " LENGTH"
ranges_of SetU32 = codes " LENGTH"
ranges_of SetParticipant = codes " LENGTH"
ranges_of SetMember = codes " LENGTH"
ranges_of SetBytes20 = codes " LENGTH"
ranges_of SetBytes33 = codes " LENGTH"
ranges_of SetBytes48 = codes " LENGTH"
ranges_of SetBytes96 = codes " LENGTH"
ranges_of SetSetU8 = codes " LENGTH ITEM-LENGTH"
ranges_of SetNonEmptyU8 = codes " LENGTH ITEM-LENGTH"
ranges_of MapU8U8 = codes " LENGTH"
ranges_of MapU8SetU8 = codes " LENGTH VALUE-LENGTH"
ranges_of MapMemberU8 = codes " LENGTH"
ranges_of MapMemberU64 = codes " LENGTH"
ranges_of VecMapU8U8 = codes " LENGTH ITEM-LENGTH"
ranges_of BiMapU8U8 = codes " LENGTH"
ranges_of BiMapMemberMember = codes " LENGTH"
ranges_of NonEmptyU8 = codes " LENGTH"
ranges_of NonEmptyNonEmptyU8 = codes " LENGTH ITEM-LENGTH"
ranges_of Certificate = codes " VALUE-LENGTH SIGNERS"

-- the types
abbrev pub all_forms : List Form
all_forms =
    U8 ∷ U32 ∷ U64 ∷ Varint ∷ Usize ∷ Participant ∷ Member ∷ VecU8 ∷ VecU32 ∷ VecU64 ∷ VecVecU8 ∷ VecVecVecU8
    ∷ SetU8 ∷ SetU32 ∷ SetParticipant ∷ SetMember ∷ SetBytes20 ∷ SetBytes33 ∷ SetBytes48 ∷ SetBytes96 ∷ SetSetU8
    ∷ SetNonEmptyU8 ∷ MapU8U8 ∷ MapU8SetU8 ∷ MapMemberU8 ∷ MapMemberU64 ∷ VecMapU8U8 ∷ BiMapU8U8
    ∷ BiMapMemberMember ∷ NonEmptyU8 ∷ NonEmptyNonEmptyU8 ∷ Certificate ∷ []

-- the names of the types, each on a line with what its ranges are
abbrev pub types_text : List ℕ
types_text = flat_map (λ form. name_of form ++ (ranges_of form ++ (10 ∷ []))) all_forms

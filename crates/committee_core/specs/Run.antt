-- What a run makes of the bytes that its reader gave, and the exit status where it writes no report.
use Rattle.std.specs.Prelude.{◌≡◌, ℕ, ◌^◌, ◌<◌, ◌≤◌, List, [], Option, Some, length, ◌⊎◌}
use Rattle.std.specs.Int.NonZero.{non_zero_u32_get}
use Rattle.std.specs.Io.KnownBytes.{Consumes}
use Rattle.std.specs.declared.ops.Bound.TheVariants.{Included}
use Rattle.program_io.specs.Streams.{Gave}
use Rattle.commonware_base.specs.Fault.{Fault}
use Rattle.commonware_base.specs.Lists.{list_enc, IsAllowedList, IsListMemoryFree}
use Rattle.commonware_base.specs.Range.{Bounds}
use Rattle.commonware_base.specs.Refusal.{Refuses}
use Rattle.commonware_base.specs.Text.{Accepts}
use Rattle.commonware_base.specs.declared.codec.error.Error.{Error}
use Rattle.commonware_base.specs.declared.codec.error.Error.TheVariants as faults
use Rattle.commonware_base.specs.declared.codec.error.Error.TheVariants.{EndOfBuffer, InvalidVarint, InvalidLength}
use Rattle.commonware_base.specs.declared.codec.error.Error.TheVariants.{Invalid}
use Rattle.commonware_ordered.specs.Sets.{IsWritableSet, SetFault}
use Rattle.committee_core.specs.BoundsReport.{IsBoundsReport}
use Rattle.committee_core.specs.Command.{IsAskedFor}
use Rattle.committee_core.specs.Members.{IsMember, member_bytes, member_cmp, member_fault}
use Rattle.committee_core.specs.Report.{IsMembersReport}
use Rattle.committee_core.specs.declared.command.Command.{Command}
use Rattle.committee_core.specs.declared.command.Command.TheVariants as commands
use Rattle.committee_core.specs.declared.error.RunError.{RunError}
use Rattle.committee_core.specs.declared.error.RunError.TheVariants.{Refused, LeftOver, Memory, ReadFailed, WriteFailed}

-- a committee has 1 to 256 members
abbrev pub members_range : Bounds ℕ
members_range = record { lower = Some 1; upper = Included 256 }

-- s is the encoding of a set of 1 to 256 members, and then rest
abbrev pub IsCommittee : List ℕ → List (List ℕ) → List ℕ → Type 0
IsCommittee s members rest =
    let Writable = IsWritableSet IsMember member_cmp in
    let Allowed = IsAllowedList members_range (λ _. Unit {0}) in
    Accepts (list_enc member_bytes) Writable Allowed s members rest

-- the first fault of s, where s begins with no committee
abbrev pub committee_fault : List ℕ → Fault → Type 0
committee_fault = SetFault member_bytes IsMember member_cmp (λ _. Unit {0}) member_fault members_range

-- s is decoded as a committee, or refused, without an allocation
abbrev pub IsCommitteeMemoryFree : List ℕ → Type 0
IsCommitteeMemoryFree = IsListMemoryFree member_fault (λ _. Unit {0}) members_range

-- this number of first bytes determines what an input is as a committee: a length of five bytes, and 256 members
abbrev pub prefix_size : ℕ
prefix_size = 8197

-- a reader that had old left and has new left gave bytes that can't be decoded as a committee without an allocation, or
-- more bytes than a `usize` counts
abbrev pub NeedsMemory : Option (List ℕ) → Option (List ℕ) → Type 0
NeedsMemory old new =
    (s : List ℕ) × ((Gave old new s × ¬ IsCommitteeMemoryFree s) ⊎ (Consumes old new s × (2 ^ 64 ≤ length s)))

-- a run of the command may fail to allocate: a report on bounds always takes memory, the decoding of a committee where
-- it can't do without
abbrev pub MayFailToAllocate : Command → Option (List ℕ) → Option (List ℕ) → Type 0
MayFailToAllocate commands.Read old new = NeedsMemory old new
MayFailToAllocate (commands.Bounds n) old new = Unit {0}

-- the error names the first fault of s, so it is no allocation failure
abbrev pub IsFirstFault : List ℕ → Error → Type 0
IsFirstFault s error = Refuses (committee_fault s) (Unit {0}) error

-- s is a committee, and then count more bytes, of which there are some
abbrev pub IsLeftOver : List ℕ → ℕ → Type 0
IsLeftOver s count =
    (members : List (List ℕ)) × (rest : List ℕ) × IsCommittee s members rest × (length rest ≡ count) × (0 < count)

-- why no report was written, where the reader gave bytes of which Given holds: what the error says of them
abbrev pub IsRefusal : (List ℕ → Type 0) → RunError → Type 0
IsRefusal Given (Refused error) = (s : List ℕ) × Given s × IsFirstFault s error
IsRefusal Given (LeftOver count) = (s : List ℕ) × Given s × IsLeftOver s count
IsRefusal Given Memory = Unit {0}
IsRefusal Given ReadFailed = Unit {0}
IsRefusal Given WriteFailed = Unit {0}

-- the bytes were refused: they have a first fault, or they go on after a committee
abbrev pub IsRefused : (List ℕ → Type 0) → Type 0
IsRefused Given =
    (s : List ℕ) × Given s × (((error : Error) × IsFirstFault s error) ⊎ ((count : ℕ) × IsLeftOver s count))

-- what a reader's error is for a run
abbrev pub refusal_of : Error → RunError
refusal_of EndOfBuffer = Refused EndOfBuffer
refusal_of InvalidVarint = Refused InvalidVarint
refusal_of (InvalidLength length) = Refused (InvalidLength length)
refusal_of (Invalid what rule) = Refused (Invalid what rule)
refusal_of faults.Memory = Memory

-- the text is the report of the command, where the reader gave bytes of which Given holds
abbrev pub IsReport : (List ℕ → Type 0) → Command → List ℕ → Type 0
IsReport Given commands.Read text =
    (s : List ℕ) × Given s × (members : List (List ℕ)) × IsCommittee s members [] × IsMembersReport members text
IsReport Given (commands.Bounds n) text = IsBoundsReport (non_zero_u32_get n) text

-- the report of the words' command was written, where the reader gave bytes of which Given holds, and Written of the
-- text
abbrev pub IsDone : List (List ℕ) → (List ℕ → Type 0) → (List ℕ → Type 0) → Type 0
IsDone words Given Written =
    (command : Command) × IsAskedFor words command × ((text : List ℕ) × Written text × IsReport Given command text)

-- the exit status where no report was written: 1 where the bytes are refused, 3 where an allocation or a device failed
abbrev pub status_of : RunError → ℕ
status_of (Refused fault) = 1
status_of (LeftOver count) = 1
status_of Memory = 3
status_of ReadFailed = 3
status_of WriteFailed = 3

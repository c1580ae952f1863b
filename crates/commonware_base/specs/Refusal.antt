-- What an error says of an input.
use Rattle.commonware_base.specs.declared.codec.error.Error.{Error}
use Rattle.commonware_base.specs.declared.codec.error.Error.TheVariants.{EndOfBuffer, InvalidVarint, InvalidLength}
use Rattle.commonware_base.specs.declared.codec.error.Error.TheVariants.{Invalid, Memory}
use Rattle.commonware_base.specs.Fault.{Fault}
use Rattle.commonware_base.specs.Fault as faults

-- An error names a fault that the input has; or it is an allocation failure, which never comes where the decoding is
-- memory-free.
abbrev pub Refuses : (Fault → Type 0) → Type 0 → Error → Type 0
Refuses HasFault MemoryFree EndOfBuffer = HasFault faults.EndOfBuffer
Refuses HasFault MemoryFree InvalidVarint = HasFault faults.InvalidVarint
Refuses HasFault MemoryFree (InvalidLength n) = HasFault (faults.InvalidLength n)
Refuses HasFault MemoryFree (Invalid what why) = HasFault (faults.Invalid what.now why.now)
Refuses HasFault MemoryFree Memory = ¬ MemoryFree

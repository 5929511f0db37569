-- What a call of a test leaves as it was. Assumes nothing: these are definitions.
use Rattle.std.specs.Prelude.{◌≡◌}
use Rattle.test_case_buffers.specs.Changes.{lents}
use Rattle.test_case_buffers.specs.declared.command.Call.{Call}
use Rattle.test_case_buffers.specs.declared.command.Call.TheVariants.{Open, Write, Strike, Read, Image, Decode, Recover}
use Rattle.test_case_buffers.specs.declared.command.Call.TheVariants.{List, Explain, Powers, TakeBack, RecoverTwo, ShelfOfTwo}
use Rattle.test_case_buffers.specs.declared.state.State.{State}

-- what every call leaves: the block, the lists, the image of the second reading, and how much is lent of each buffer
abbrev pub Kept : State → State → Type 0
Kept old new = (new.block ≡ old.block) × (new.list ≡ old.list) × (new.image2 ≡ old.image2) × (new.list2 ≡ old.list2) × (lents new ≡ lents old)

-- the vault
abbrev pub VaultKept : State → State → Type 0
VaultKept old new = (new.header ≡ old.header) × (new.raw ≡ old.raw) × (new.full ≡ old.full) × (new.log ≡ old.log)

-- what decoding writes to
abbrev pub OutKept : State → State → Type 0
OutKept old new = (new.out ≡ old.out) × (new.scratch ≡ old.scratch)

-- what each call leaves beside that
abbrev pub RestKept : Call → State → State → Type 0
RestKept Open old new = (new.image ≡ old.image) × OutKept old new
RestKept (Write r) old new = (new.image ≡ old.image) × OutKept old new
RestKept (Strike r) old new = (new.image ≡ old.image) × OutKept old new
RestKept (TakeBack n) old new = (new.image ≡ old.image) × OutKept old new
RestKept Image old new = VaultKept old new × OutKept old new
RestKept (Decode n) old new = VaultKept old new × (new.image ≡ old.image)
RestKept Recover old new = VaultKept old new × (new.image ≡ old.image)
RestKept RecoverTwo old new = VaultKept old new × (new.image ≡ old.image)
RestKept (Explain n) old new = VaultKept old new × (new.image ≡ old.image)
RestKept Powers old new = VaultKept old new × (new.image ≡ old.image)
RestKept List old new = VaultKept old new × OutKept old new
RestKept (Read r) old new = VaultKept old new × (new.image ≡ old.image) × OutKept old new
RestKept (ShelfOfTwo n) old new = VaultKept old new × (new.image ≡ old.image) × OutKept old new

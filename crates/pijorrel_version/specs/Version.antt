-- Which interface a library has. No document asks for it: a loader that was compiled with another header would lend states of another length.
use Rattle.std.specs.Prelude.{ℕ, ◌+◌, ◌*◌, ◌<◌, ◌≡◌}
use Rattle.model.specs.StateBytes.{old_size, new_size}

-- raised by one wherever a function, a number or what an area holds changes or comes in
abbrev pub revision : ℕ
revision = 1

-- a revision and the lengths of both states in bytes, ten bits for each length
abbrev pub version_of : ℕ → ℕ → ℕ → ℕ
version_of r old new = (r * 1024 + old) * 1024 + new

abbrev pub version : ℕ
version = version_of revision old_size new_size

-- no other revision and no other lengths have this version
unfoldable pub VersionTells : Type 0
VersionTells = (r old new : ℕ) → old < 1024 → new < 1024 → version_of r old new ≡ version → (r ≡ revision) × (old ≡ old_size) × (new ≡ new_size)

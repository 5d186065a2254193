-- A version tells the revision and both lengths.
use native.Mathlib.Omega.{arith}
use Rattle.pijorrel_version.specs.Version.{VersionTells}

pub version_tells : VersionTells
unfolding VersionTells
version_tells r old new o n e = (omega arith, omega arith, omega arith)

-- "flags (1 dual, 2 swapped, 4 vconn)", and 8 for "standard": the flags of any settings, read back, are those settings. Assumes nothing.
use Prim.Native.Nat.{ℕ}
use mathlib.Core.Path.{◌≡◌, refl}
use mathlib.Core.Bool.{Bool, true, false}
use Rattle.std.specs.Prelude.{Ok}
use Rattle.definition.specs.Paper.{flags}
use Rattle.definition.specs.Sentences.{flagged}
use Rattle.trace.specs.Types.{Setting, Settings}
use Rattle.trace.specs.Beginning.{settings}

read_back : (d w v : Bool) (g : Setting) (h c : ℕ) → settings (flags (flagged d w v g h c)) h c ≡ Ok (flagged d w v g h c)
unfolding settings
read_back false false false Setting.Crate h c = refl
read_back true false false Setting.Crate h c = refl
read_back false true false Setting.Crate h c = refl
read_back true true false Setting.Crate h c = refl
read_back false false true Setting.Crate h c = refl
read_back true false true Setting.Crate h c = refl
read_back false true true Setting.Crate h c = refl
read_back true true true Setting.Crate h c = refl
read_back false false false Setting.Standard h c = refl
read_back true false false Setting.Standard h c = refl
read_back false true false Setting.Standard h c = refl
read_back true true false Setting.Standard h c = refl
read_back false false true Setting.Standard h c = refl
read_back true false true Setting.Standard h c = refl
read_back false true true Setting.Standard h c = refl
read_back true true true Setting.Standard h c = refl

pub flags_read_back : (s : Settings) → settings (flags s) s.hard_limit s.caps_limit ≡ Ok s
flags_read_back s = read_back s.port.dual_role s.role_swapped s.port.vconn_source s.port.setting s.hard_limit s.caps_limit

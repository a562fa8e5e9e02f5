-- `words::put_u32s` meets its contract: at each turn the numbers before are put.
use Rattle.std.proofs.Common.{◌≡◌, take}
use Rattle.text_rules.specs.Bytes.{put_at}
use Rattle.text_rules.specs.U32.{u32s_bytes}
use Rattle.words.proofs.put_u32s.Given as goal

abbrev pub invariant-loop-k : goal.invariant-loop-k
invariant-loop-k g l = l.s ≡ put_at l.at (u32s_bytes (take l.k l.number-items)) l.initial.s

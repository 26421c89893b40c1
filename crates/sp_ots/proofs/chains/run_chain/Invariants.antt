use Rattle.std.proofs.Common.{◌≡◌, ◌-◌, ◌≤◌, ◌++◌, length, take, drop}
use Rattle.sp_ots.specs.Strings.{u16str, u32str}
use Rattle.sp_ots.specs.Chains.{chain_end}
use Rattle.sp_ots.proofs.chains.run_chain.Given as goal

abbrev pub invariant-steps : goal.invariant-steps
invariant-steps l = record {
  long : length l.message ≡ 55;
  front : take 22 l.message ≡ l.id ++ u32str l.q ++ u16str l.i;
  element : drop 23 l.message ≡ chain_end l.id l.q l.i l.from l.j l.element;
  within : l.j - l.from ≤ l.to - l.from;
}

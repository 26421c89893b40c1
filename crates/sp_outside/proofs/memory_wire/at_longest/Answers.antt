use Rattle.std.proofs.Common.{◌∙◌, ap, take, ℕ}
use Rattle.std.proofs.lemmas.List.{take_min}
use Rattle.sp_outside.specs.declared.wire.TheConstants.{DATAGRAM_BYTES}
use Rattle.sp_outside.proofs.memory_wire.at_longest.Goals as goal

pub returns-clause-front : goal.returns-clause-front
returns-clause-front c = ap (λ (n : ℕ). take n c.args.bytes.now) c.min-count.ensures ∙ take_min DATAGRAM_BYTES c.args.bytes.now

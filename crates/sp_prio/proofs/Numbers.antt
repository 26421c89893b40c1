-- A message that some format has says a number in its range.
use Rattle.std.proofs.Common.{◌≤◌, arith}
use Rattle.sp_base.specs.declared.limits.TheConstants.{MAX_SEQ}
use Rattle.sp_msg.proofs.GoodFields.{good_prio}
use Rattle.sp_msg.specs.declared.body.Body.{Body}
use Rattle.sp_msg.specs.declared.body.Body.TheVariants as bodies
use Rattle.sp_rules.specs.Changes.{FitsAFormat}
use Rattle.sp_rules.specs.Store.{said}

pub small_seq : (body : Body) → FitsAFormat body → said (λ p. p.seq) body ≤ MAX_SEQ
small_seq (bodies.Prio p) good = (good_prio good.0 p good.1).seq.1
small_seq (bodies.Rel b) good = omega arith
small_seq (bodies.Ack b) good = omega arith
small_seq (bodies.Weight b) good = omega arith
small_seq (bodies.Krel b) good = omega arith
small_seq (bodies.Kack b) good = omega arith
small_seq (bodies.Epoch b) good = omega arith

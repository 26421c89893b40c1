-- Messages as values: a borrowed one read as one of its own, and what it names.
use Rattle.std.specs.Prelude.{ℕ, ◌==◌, Bool}
use Rattle.std.specs.Int.{bit_at}
use Rattle.sp_base.specs.declared.id.NodeId.{NodeId}
use Rattle.sp_msg.specs.declared.body.Body.{Body}
use Rattle.sp_msg.specs.declared.body.Body.TheVariants as bodies
use Rattle.sp_msg.specs.declared.body.BodyRef.{BodyRef}
use Rattle.sp_msg.specs.declared.body.BodyRef.TheVariants as borrowed
use Rattle.sp_msg.specs.declared.body.Krel.{Krel}
use Rattle.sp_msg.specs.declared.body.KrelRef.{KrelRef}
use Rattle.sp_msg.specs.declared.body.Prio.{Prio}
use Rattle.sp_msg.specs.declared.body.PrioRef.{PrioRef}
use Rattle.sp_msg.specs.declared.body.Rel.{Rel}
use Rattle.sp_msg.specs.declared.body.RelRef.{RelRef}

abbrev pub as_prio : PrioRef → Prio
as_prio p = record { src = p.src; dst = p.dst; sboot = p.sboot; seq = p.seq; prio = p.prio; expiry = p.expiry; mask = p.mask; payload = p.payload.now }

-- a borrowed reliable message as one of its own
abbrev pub as_rel : RelRef → Rel
as_rel r = record { src = r.src; dst = r.dst; sboot = r.sboot; dboot = r.dboot; seq = r.seq; payload = r.payload.now }

-- a borrowed message over paths as one of its own
abbrev pub as_krel : KrelRef → Krel
as_krel r = record { src = r.src; dst = r.dst; sboot = r.sboot; dboot = r.dboot; seq = r.seq; mask = r.mask; payload = r.payload.now }

-- the message, wherever its payload lies
abbrev pub as_body : BodyRef → Body
as_body (borrowed.Prio p) = bodies.Prio (as_prio p)
as_body (borrowed.Rel r) = bodies.Rel (as_rel r)
as_body (borrowed.Ack a) = bodies.Ack a
as_body (borrowed.Weight w) = bodies.Weight w
as_body (borrowed.Krel r) = bodies.Krel (as_krel r)
as_body (borrowed.Kack a) = bodies.Kack a
as_body (borrowed.Epoch e) = bodies.Epoch e

-- the node whose signature a message bears
abbrev pub signer_of : Body → NodeId
signer_of (bodies.Prio p) = p.src
signer_of (bodies.Rel r) = r.src
signer_of (bodies.Ack a) = a.dst
signer_of (bodies.Weight w) = w.origin
signer_of (bodies.Krel r) = r.src
signer_of (bodies.Kack a) = a.dst
signer_of (bodies.Epoch e) = e.origin

-- a mask names an edge by its bit, counted from the least
abbrev pub names_edge : ℕ → ℕ → Bool
names_edge mask edge = bit_at mask edge == 1

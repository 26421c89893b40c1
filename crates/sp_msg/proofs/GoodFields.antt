-- The fields of a good message by their names, so that a field more moves no proof.
use Rattle.std.proofs.Common.{◌≡◌, ◌≤◌, ◌<◌, ◌-◌, ◌^◌, ℕ, length, false, true, refl, sym, subst, arith}
use Rattle.sp_base.specs.Formats.{max_edges, max_nodes}
use Rattle.sp_base.specs.declared.format.TheConstants.{FORMAT_1}
use Rattle.sp_base.specs.declared.limits.TheConstants.{MAX_EDGES, MAX_PAYLOAD_BYTES, MAX_PRIORITY, MAX_SEQ, MAX_WEIGHT}
use Rattle.sp_msg.specs.declared.body.Ack.{Ack}
use Rattle.sp_msg.specs.declared.body.Body.{Body}
use Rattle.sp_msg.specs.declared.body.Body.TheVariants as bodies
use Rattle.sp_msg.specs.declared.body.Epoch.{Epoch}
use Rattle.sp_msg.specs.declared.body.Kack.{Kack}
use Rattle.sp_msg.specs.declared.body.Krel.{Krel}
use Rattle.sp_msg.specs.declared.body.Prio.{Prio}
use Rattle.sp_msg.specs.declared.body.Rel.{Rel}
use Rattle.sp_msg.specs.declared.body.WeightBody.{WeightBody}
use Rattle.sp_msg.specs.declared.mask.Mask.{Mask}
use Rattle.sp_msg.specs.Bodies.{HasGoodFields, HasGoodFieldsIn, boot_field, encoded, high_field, low_field}
use Rattle.sp_msg.specs.Fields.{IsInRange}
use Rattle.sp_msg.specs.Masks.{mask_from}
use Rattle.sp_msg.proofs.HalfLemmas.{low_alone, of_two}

abbrev pub IsWithin : ℕ → ℕ → ℕ → Type 0
IsWithin low high x = (low ≤ x) × (x ≤ high)

-- the mask has room in the two fields of a format
pub record GoodMask (format : ℕ) (mask : Mask) : Type 0 where
  pub high : IsInRange (high_field format) mask.high
  pub low : IsInRange (low_field format) mask.low

pub record GoodPrio (format : ℕ) (p : Prio) : Type 0 where
  pub src : IsWithin 1 (max_nodes format) p.src.0
  pub dst : IsWithin 1 (max_nodes format) p.dst.0
  pub sboot : IsInRange (boot_field format) p.sboot
  pub seq : IsWithin 1 MAX_SEQ p.seq
  pub prio : IsWithin 1 MAX_PRIORITY p.prio
  pub expiry : p.expiry < 256 ^ 8
  pub mask : GoodMask format p.mask
  pub payload : length p.payload ≤ MAX_PAYLOAD_BYTES

-- fields of a priority message that are in their ranges meet what its format asks
pub good_prio : (format : ℕ) (p : Prio) → HasGoodFieldsIn format (bodies.Prio p) → GoodPrio format p
good_prio format p good = record {
  src = good.1.0;
  dst = good.1.1.0;
  sboot = good.1.1.1.0;
  seq = good.1.1.1.1.0;
  prio = good.1.1.1.1.1.0;
  expiry = good.1.1.1.1.1.1.0;
  mask = record { high = good.1.1.1.1.1.1.1.0; low = good.1.1.1.1.1.1.1.1.0 };
  payload = good.1.1.1.1.1.1.1.1.1.0.1;
}

-- a priority message that meets what its format asks has its fields in their ranges
pub prio_is_good : (format : ℕ) (p : Prio) → GoodPrio format p → HasGoodFieldsIn format (bodies.Prio p)
prio_is_good format p is =
    (refl, (is.src, (is.dst, (is.sboot, (is.seq, (is.prio, (is.expiry, (is.mask.high, (is.mask.low, ((omega arith, is.payload), tt))))))))))

pub record GoodRel (format : ℕ) (r : Rel) : Type 0 where
  pub src : IsWithin 1 (max_nodes format) r.src.0
  pub dst : IsWithin 1 (max_nodes format) r.dst.0
  pub sboot : IsInRange (boot_field format) r.sboot
  pub dboot : IsInRange (boot_field format) r.dboot
  pub seq : IsWithin 1 MAX_SEQ r.seq
  pub payload : length r.payload ≤ MAX_PAYLOAD_BYTES

-- fields of a reliable message that are in their ranges meet what its format asks
pub good_rel : (format : ℕ) (r : Rel) → HasGoodFieldsIn format (bodies.Rel r) → GoodRel format r
good_rel format r good = record {
  src = good.1.0;
  dst = good.1.1.0;
  sboot = good.1.1.1.0;
  dboot = good.1.1.1.1.0;
  seq = good.1.1.1.1.1.0;
  payload = good.1.1.1.1.1.1.0.1;
}

-- a reliable message that meets what its format asks has its fields in their ranges
pub rel_is_good : (format : ℕ) (r : Rel) → GoodRel format r → HasGoodFieldsIn format (bodies.Rel r)
rel_is_good format r is = (refl, (is.src, (is.dst, (is.sboot, (is.dboot, (is.seq, ((omega arith, is.payload), tt)))))))

pub record GoodAck (format : ℕ) (a : Ack) : Type 0 where
  pub src : IsWithin 1 (max_nodes format) a.src.0
  pub dst : IsWithin 1 (max_nodes format) a.dst.0
  pub sboot : IsInRange (boot_field format) a.sboot
  pub dboot : IsInRange (boot_field format) a.dboot
  pub seq : IsWithin 1 MAX_SEQ a.seq

-- fields of an acknowledgement that are in their ranges meet what its format asks
pub good_ack : (format : ℕ) (a : Ack) → HasGoodFieldsIn format (bodies.Ack a) → GoodAck format a
good_ack format a good = record { src = good.1.0; dst = good.1.1.0; sboot = good.1.1.1.0; dboot = good.1.1.1.1.0; seq = good.1.1.1.1.1.0 }

-- an acknowledgement that meets what its format asks has its fields in their ranges
pub ack_is_good : (format : ℕ) (a : Ack) → GoodAck format a → HasGoodFieldsIn format (bodies.Ack a)
ack_is_good format a is = (refl, (is.src, (is.dst, (is.sboot, (is.dboot, (is.seq, tt))))))

pub record GoodWeight (format : ℕ) (w : WeightBody) : Type 0 where
  pub origin : IsWithin 1 (max_nodes format) w.origin.0
  pub edge : w.edge.0 ≤ max_edges format - 1
  pub seq : IsWithin 1 MAX_SEQ w.seq
  pub weight : IsWithin 1 MAX_WEIGHT w.weight

-- fields of an update of a weight that are in their ranges meet what its format asks
pub good_weight : (format : ℕ) (w : WeightBody) → HasGoodFieldsIn format (bodies.Weight w) → GoodWeight format w
good_weight format w good = record { origin = good.1.0; edge = good.1.1.0.1; seq = good.1.1.1.0; weight = good.1.1.1.1.0 }

-- an update of a weight that meets what its format asks has its fields in their ranges
pub weight_is_good : (format : ℕ) (w : WeightBody) → GoodWeight format w → HasGoodFieldsIn format (bodies.Weight w)
weight_is_good format w is = (refl, (is.origin, ((omega arith, is.edge), (is.seq, (is.weight, tt)))))

pub record GoodKrel (format : ℕ) (r : Krel) : Type 0 where
  pub src : IsWithin 1 (max_nodes format) r.src.0
  pub dst : IsWithin 1 (max_nodes format) r.dst.0
  pub sboot : IsInRange (boot_field format) r.sboot
  pub dboot : IsInRange (boot_field format) r.dboot
  pub seq : IsWithin 1 MAX_SEQ r.seq
  pub mask : GoodMask format r.mask
  pub payload : length r.payload ≤ MAX_PAYLOAD_BYTES

-- fields of a message over paths that are in their ranges meet what its format asks
pub good_krel : (format : ℕ) (r : Krel) → HasGoodFieldsIn format (bodies.Krel r) → GoodKrel format r
good_krel format r good = record {
  src = good.1.0;
  dst = good.1.1.0;
  sboot = good.1.1.1.0;
  dboot = good.1.1.1.1.0;
  seq = good.1.1.1.1.1.0;
  mask = record { high = good.1.1.1.1.1.1.0; low = good.1.1.1.1.1.1.1.0 };
  payload = good.1.1.1.1.1.1.1.1.0.1;
}

pub record GoodKack (format : ℕ) (a : Kack) : Type 0 where
  pub src : IsWithin 1 (max_nodes format) a.src.0
  pub dst : IsWithin 1 (max_nodes format) a.dst.0
  pub sboot : IsInRange (boot_field format) a.sboot
  pub dboot : IsInRange (boot_field format) a.dboot
  pub seq : IsWithin 1 MAX_SEQ a.seq

-- fields of an acknowledgement over paths that are in their ranges meet what its format asks
pub good_kack : (format : ℕ) (a : Kack) → HasGoodFieldsIn format (bodies.Kack a) → GoodKack format a
good_kack format a good = record { src = good.1.0; dst = good.1.1.0; sboot = good.1.1.1.0; dboot = good.1.1.1.1.0; seq = good.1.1.1.1.1.0 }

-- ---- format 1

-- it has no boot
pub no_boot : IsInRange (boot_field FORMAT_1) 0
no_boot = omega arith

pub is_no_boot : (boot : ℕ) → IsInRange (boot_field FORMAT_1) boot → boot ≡ 0
is_no_boot boot is = omega (arith, is)

-- a mask of its edges alone has no high half
pub low_mask : (n : ℕ) → n < 2 ^ MAX_EDGES → GoodMask FORMAT_1 (of_two 0 n)
low_mask n small = record { high = omega arith; low = (omega arith, omega (arith, small)) }

pub first_mask : (n : ℕ) → n < 2 ^ MAX_EDGES → GoodMask FORMAT_1 (mask_from n)
first_mask n small = subst (GoodMask FORMAT_1) (sym (low_alone n (omega (arith, small)))) (low_mask n small)

-- and it lacks three kinds
pub no_krel : (r : Krel) → HasGoodFields (bodies.Krel r) → ⊥
no_krel r good = let none : false ≡ true = good.0 in cc

pub no_kack : (a : Kack) → HasGoodFields (bodies.Kack a) → ⊥
no_kack a good = let none : false ≡ true = good.0 in cc

pub no_epoch : (e : Epoch) → HasGoodFields (bodies.Epoch e) → ⊥
no_epoch e good = let none : false ≡ true = good.0 in cc

-- its longest message is a priority message with the longest payload
pub first_long : (body : Body) → HasGoodFields body → length (encoded body) ≤ 1062
first_long (bodies.Prio p) good = omega (arith, (good_prio FORMAT_1 p good).payload)
first_long (bodies.Rel r) good = omega (arith, (good_rel FORMAT_1 r good).payload)
first_long (bodies.Ack a) good = omega arith
first_long (bodies.Weight w) good = omega arith
first_long (bodies.Krel r) good = absurd (no_krel r good)
first_long (bodies.Kack a) good = absurd (no_kack a good)
first_long (bodies.Epoch e) good = absurd (no_epoch e good)

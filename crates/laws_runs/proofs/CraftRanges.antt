-- What is crafted in the own name of a compromised node is in its ranges.
use Rattle.std.proofs.Common.{◌≡◌, ◌<◌, ◌≤◌, ◌==◌, ◌^◌, ℕ, Bool, true, false, cond, List, [], ◌∷◌, length, Some, None, refl, sym, subst, arith}
use Rattle.std.specs.Prelude.{All, IfSome, Option, if◌then◌else◌}
use Rattle.std.proofs.lemmas.List.Elements.{All-cons, All-nil}
use Rattle.sp_base.proofs.FormatLemmas.{few_nodes}
use Rattle.sp_base.specs.declared.limits.TheConstants.{MAX_MESSAGES}
use Rattle.sp_base.specs.declared.id.Flow.{Flow}
use Rattle.sp_base.specs.declared.id.NodeId.{NodeId}
use Rattle.sp_frame.specs.Objects.{IsObject, most}
use Rattle.sp_frame.specs.Ranges.{IsContentsIn, IsNumbered, IsReport}
use Rattle.sp_frame.specs.Reliable.{Report, boot_bytes}
use Rattle.sp_frame.specs.declared.kind.Kind.TheVariants as kinds
use Rattle.sp_msg.specs.Bodies.{HasGoodFieldsIn}
use Rattle.sp_msg.specs.declared.body.Body.{Body}
use Rattle.sp_msg.specs.declared.body.Body.TheVariants as bodies
use Rattle.sp_msg.specs.declared.kept.Kept.{Kept}
use Rattle.sp_rules.specs.Arts.{Arts}
use Rattle.sp_rules.specs.Parts.{nodes_of}
use Rattle.sp_rules.specs.Pieces.{pieces_of}
use Rattle.sp_rules.specs.declared.lives.Life.{Life}
use Rattle.laws_node.specs.Sizes.{IsNode}
use Rattle.laws_node.proofs.Boot.{nodes_hold}
use Rattle.laws_node.proofs.Carried.{AllKeep}
use Rattle.laws_node.proofs.Reliable.{in_range}
use Rattle.sp_runs.specs.Inputs.{contents_with, dated, object_alone, paths_alone, report_on, slot_alone}
use Rattle.sp_runs.specs.Settings.{Setting, StaysUp, is_node}
use Rattle.sp_schedule_crafts.specs.Objects.{body_of}
use Rattle.sp_schedule_crafts.specs.declared.object.CraftedObject.{CraftedObject}
use Rattle.sp_schedule_crafts.specs.declared.object.CraftedObject.TheVariants as crafted
use Rattle.sp_base.specs.declared.format.TheConstants.{FORMAT_1}
use Rattle.sp_base.specs.Formats.{by_format}
use Rattle.sp_msg.proofs.GoodFields.{good_ack, good_kack, good_krel, good_rel}
use Rattle.laws_runs.specs.Unborn.{HoldNone}

small : (format : ℕ) (v : NodeId) → IsNode format v → v.0 < 256
small format v is = omega (arith, is.1, few_nodes format)

-- a node of a setting that stays up has an id below 256
pub node_small : (arts : Arts) (x : Setting) → StaysUp arts x → (u : NodeId) → is_node x u ≡ true → u.0 < 256
node_small arts x fits u there =
    let f = x.topology.format in
    small f u (in_range f (nodes_of x.topology) u (nodes_hold f x.topology.height 0 x.topology.nodes fits.fits.topology.ranges.nodes) there)

-- 0 has room in the field of a boot, and a slot has room for a message
pub no_boot : (format : ℕ) → 0 < 256 ^ boot_bytes format
no_boot format = go (format == FORMAT_1)
  where
    go : (b : Bool) → 0 < 256 ^ (if b then 0 else 8)
    go true = omega arith
    go false = omega arith

room_for_one : (format : ℕ) → 1 ≤ most format kinds.Rel
room_for_one format = go (format == FORMAT_1)
  where
    go : (b : Bool) → 1 ≤ (if b then MAX_MESSAGES else 2)
    go true = omega arith
    go false = omega arith

-- a format that has such messages is a later one
later_format : (format : ℕ) → by_format format false true ≡ true → (format == FORMAT_1) ≡ false
later_format format e = go (format == FORMAT_1) e
  where
    go : (t : Bool) → cond t false true ≡ true → t ≡ false
    go true e = absurd (let wrong : false ≡ true = e in cc)
    go false e = refl

room_for_later : (format : ℕ) → 1 ≤ most format kinds.Krel
room_for_later format = omega arith

-- updates, priority messages and a slot that fit, where there is one update and one message at most
with_fits : (format len : ℕ) (weights : List Kept) (prios : List (ℕ × Kept)) (slot : Option Report) → length weights ≤ 1
    → All (IsObject format kinds.Weight len) weights → length prios ≤ 1 → All (IsNumbered format len) prios
    → IfSome slot (IsReport format kinds.Ack kinds.Rel len) → IsContentsIn format len (contents_with weights prios slot)
with_fits format len weights prios slot few_weights of_weights few_prios of_prios of_slot = record {
  document = tt;
  few_weights = few_weights;
  weights = of_weights;
  prio_ack = omega arith;
  few_prios = omega (arith, few_prios);
  prios = of_prios;
  slot = of_slot;
  paths = tt;
  probe = tt;
  epoch = tt;
}

slot_fits : (format len base have : ℕ) (lives : List Life) → HoldNone lives → (flow : Flow) (ack : Option Kept) (rels : List Kept)
    → flow.src.0 < 256 → flow.dst.0 < 256 → base < 2 ^ 64
    → have < 2 ^ 64 → IfSome ack (IsObject format kinds.Ack len) → length rels ≤ 1 → All (IsObject format kinds.Rel len) rels
    → IsContentsIn format len (slot_alone lives flow base have ack rels)
slot_fits format len base have lives none flow ack rels src dst b h of_ack few of_rels =
    with_fits format len [] [] (Some (report_on lives flow base have ack rels)) (omega arith) (All-nil (IsObject format kinds.Weight len)) (omega arith)
    (All-nil (IsNumbered format len)) (record {
      src = src;
      dst = dst;
      sboot = subst (λ boot. boot < 256 ^ boot_bytes format) (sym (none flow.src)) (no_boot format);
      dboot = subst (λ boot. boot < 256 ^ boot_bytes format) (sym (none flow.dst)) (no_boot format);
      base = b;
      have = h;
      ack = of_ack;
      few = omega (arith, few, room_for_one format);
      rels = of_rels;
    })

none_fits : (format len : ℕ) → IsContentsIn format len (contents_with [] [] None)
none_fits format len =
    with_fits format len [] [] None (omega arith) (All-nil (IsObject format kinds.Weight len)) (omega arith) (All-nil (IsNumbered format len)) tt

-- a slot of a flow on paths, in a format that has them
paths_fits : (format len : ℕ) (lives : List Life) → HoldNone lives → (flow : Flow) (ack : Option Kept) (rels : List Kept)
    → (format == FORMAT_1) ≡ false → flow.src.0 < 256 → flow.dst.0 < 256 → IfSome ack (IsObject format kinds.Kack len) → length rels ≤ 1
    → All (IsObject format kinds.Krel len) rels → IsContentsIn format len (paths_alone lives flow ack rels)
paths_fits format len lives none flow ack rels later src dst of_ack few of_rels =
    let bare = none_fits format len in
    record {
      document = tt;
      few_weights = bare.few_weights;
      weights = bare.weights;
      prio_ack = bare.prio_ack;
      few_prios = bare.few_prios;
      prios = bare.prios;
      slot = tt;
      paths = (
        later,
        record {
          src = src;
          dst = dst;
          sboot = subst (λ boot. boot < 256 ^ boot_bytes format) (sym (none flow.src)) (no_boot format);
          dboot = subst (λ boot. boot < 256 ^ boot_bytes format) (sym (none flow.dst)) (no_boot format);
          base = omega arith;
          have = omega arith;
          ack = of_ack;
          few = omega (arith, few, room_for_later format);
          rels = of_rels;
        },
      );
      probe = tt;
      epoch = tt;
    }

-- a status of a flow whose boots are none is in its ranges
pub status_fits : (format len base have : ℕ) (lives : List Life) → HoldNone lives → (flow : Flow)
    → flow.src.0 < 256 → flow.dst.0 < 256 → base < 2 ^ 64 → have < 2 ^ 64
    → IsContentsIn format len (slot_alone lives flow base have None [])
status_fits format len base have lives none flow src dst b h =
    slot_fits format len base have lives none flow None [] src dst b h tt (omega arith) (All-nil (IsObject format kinds.Rel len))

-- so is an object whose body is
pub object_fits : (format len : ℕ) (lives : List Life) → HoldNone lives → (body : Body) (signature : List ℕ)
    → HasGoodFieldsIn format body → length signature ≡ len → len < 65536
    → IsContentsIn format len (object_alone lives body (record { body = body; signature = signature }))
object_fits format len lives none (bodies.Prio p) signature good long short =
    with_fits format len [] ((1, record { body = bodies.Prio p; signature = signature }) ∷ []) None (omega arith) (All-nil (IsObject format kinds.Weight len))
    (omega arith)
    (All-cons (IsNumbered format len) (1, record { body = bodies.Prio p; signature = signature }) []
    (record { number = omega arith; object = record { fields = good; is = refl; long = long; fits = short } }) (All-nil (IsNumbered format len))) tt
object_fits format len lives none (bodies.Rel r) signature good long short =
    let fields = good_rel format r good in
    let few = few_nodes format in
    slot_fits format len 0 0 lives none (record { src = r.src; dst = r.dst }) None (record { body = bodies.Rel r; signature = signature } ∷ [])
    (omega (arith, fields.src.1, few))
    (omega (arith, fields.dst.1, few)) (omega arith) (omega arith) tt (omega arith)
    (All-cons (IsObject format kinds.Rel len) (record { body = bodies.Rel r; signature = signature }) []
    (record { fields = good; is = refl; long = long; fits = short }) (All-nil (IsObject format kinds.Rel len)))
object_fits format len lives none (bodies.Ack a) signature good long short =
    let fields = good_ack format a good in
    let few = few_nodes format in
    slot_fits format len 0 0 lives none (record { src = a.src; dst = a.dst }) (Some (record { body = bodies.Ack a; signature = signature })) []
    (omega (arith, fields.src.1, few)) (omega (arith, fields.dst.1, few)) (omega arith) (omega arith)
    (record { fields = good; is = refl; long = long; fits = short }) (omega arith) (All-nil (IsObject format kinds.Rel len))
object_fits format len lives none (bodies.Weight w) signature good long short =
    with_fits format len (record { body = bodies.Weight w; signature = signature } ∷ []) [] None (omega arith)
    (All-cons (IsObject format kinds.Weight len) (record { body = bodies.Weight w; signature = signature }) []
    (record { fields = good; is = refl; long = long; fits = short }) (All-nil (IsObject format kinds.Weight len))) (omega arith)
    (All-nil (IsNumbered format len)) tt
object_fits format len lives none (bodies.Krel r) signature good long short =
    let fields = good_krel format r good in
    let few = few_nodes format in
    paths_fits format len lives none (record { src = r.src; dst = r.dst }) None (record { body = bodies.Krel r; signature = signature } ∷ [])
    (later_format format good.0) (omega (arith, fields.src.1, few)) (omega (arith, fields.dst.1, few)) tt (omega arith)
    (All-cons (IsObject format kinds.Krel len) (record { body = bodies.Krel r; signature = signature }) []
    (record { fields = good; is = refl; long = long; fits = short }) (All-nil (IsObject format kinds.Krel len)))
object_fits format len lives none (bodies.Kack a) signature good long short =
    let fields = good_kack format a good in
    let few = few_nodes format in
    paths_fits format len lives none (record { src = a.src; dst = a.dst }) (Some (record { body = bodies.Kack a; signature = signature })) []
    (later_format format good.0) (omega (arith, fields.src.1, few)) (omega (arith, fields.dst.1, few))
    (record { fields = good; is = refl; long = long; fits = short }) (omega arith) (All-nil (IsObject format kinds.Krel len))
object_fits format len lives none (bodies.Epoch e) signature good long short = none_fits format len

-- what it carries is that object alone, or none of a kind that no schedule crafts
pub only_it : (P : Kept → Type 0) (lives : List Life) (body : Body) (signature : List ℕ) → P (record { body = body; signature = signature })
    → AllKeep P (pieces_of (object_alone lives body (record { body = body; signature = signature })))
only_it P lives (bodies.Prio p) signature h = (tt, (h, tt))
only_it P lives (bodies.Rel r) signature h = (tt, (tt, (h, tt)))
only_it P lives (bodies.Ack a) signature h = (tt, (tt, (h, tt)))
only_it P lives (bodies.Weight w) signature h = (h, (tt, tt))
only_it P lives (bodies.Krel r) signature h = (tt, (tt, (h, tt)))
only_it P lives (bodies.Kack a) signature h = (tt, (tt, (h, tt)))
only_it P lives (bodies.Epoch e) signature h = (tt, tt)

-- without epochs a node takes a crafted object as it is: it holds no boot of an end
pub dated_is : (lives : List Life) → HoldNone lives → (o : CraftedObject) → dated lives (body_of o) ≡ body_of o
dated_is lives none (crafted.Rel r) = rw (none r.src, none r.dst) refl
dated_is lives none (crafted.Ack a) = rw (none a.src, none a.dst) refl
dated_is lives none (crafted.Prio p) = rw (none p.src) refl
dated_is lives none (crafted.Weight w) = refl
dated_is lives none (crafted.Krel r) = rw (none r.src, none r.dst) refl
dated_is lives none (crafted.Kack a) = rw (none a.src, none a.dst) refl

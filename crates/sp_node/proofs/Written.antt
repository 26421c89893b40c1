-- What a frame carries can be written.
use Rattle.std.proofs.Common.{◌≡◌, ℕ, List, [], ◌∷◌, map, Option, Some, None, sym, subst, arith, Bor}
use Rattle.std.specs.Prelude.{IfSome, option_copied, option_map}
use Rattle.std.specs.List.{All}
use Rattle.std.proofs.lemmas.List.Elements.{All-cons, All-head, All-nil, All-tail}
use Rattle.sp_frame.specs.Objects.{IsObject}
use Rattle.sp_frame.specs.Ranges.{IsNumbered, IsReport, Later}
use Rattle.sp_frame.specs.Reliable.{Report}
use Rattle.sp_frame.specs.Views.{as_list}
use Rattle.sp_frame.specs.Writing.{IsWritable, IsWritableSlot, out_report}
use Rattle.sp_frame.specs.declared.kind.Kind.{Kind}
use Rattle.sp_frame.specs.declared.kind.Kind.TheVariants as kinds
use Rattle.sp_frame.specs.declared.writing.OutSlot.{OutSlot}
use Rattle.sp_msg.specs.declared.kept.Kept.{Kept}

writable : (format : ℕ) (kind : Kind) (len : ℕ) (o : Kept) → IsObject format kind len o → IsWritable format o
writable format kind len o is = record { fields = is.fields; short = omega (arith, is.long, is.fits) }

pub writable_one : (format : ℕ) (r : Option (Bor Kept)) (x : Option Kept) (kind : Kind) (len : ℕ) → option_copied r ≡ x
    → All (IsObject format kind len) (as_list x)
    → IfSome r (λ o. IsWritable format o.now)
writable_one format None x kind len e all = tt
writable_one format (Some b) None kind len e all = absurd (cc)
writable_one format (Some b) (Some o) kind len e all =
    let same : b.now ≡ o = cc in
    subst (IsWritable format) (sym same) (writable format kind len o (All-head (IsObject format kind len) o [] all))

-- one that format 1 lacks
pub writable_later : (format : ℕ) (r : Option (Bor Kept)) (x : Option Kept) (kind : Kind) (len : ℕ) → option_copied r ≡ x
    → IfSome x (Later format (IsObject format kind len))
    → IfSome r (λ o. IsWritable format o.now)
writable_later format None x kind len e good = tt
writable_later format (Some b) None kind len e good = absurd (cc)
writable_later format (Some b) (Some o) kind len e good =
    let same : b.now ≡ o = cc in
    subst (IsWritable format) (sym same) (writable format kind len o good.1)

-- each message of a list with link numbers
pub writable_all : (format : ℕ) (rs : List (ℕ × Bor Kept)) (ms : List (ℕ × Kept)) (len : ℕ) → map (λ (p : ℕ × Bor Kept). (p.0, p.1.now)) rs ≡ ms
    → All (IsNumbered format len) ms
    → All (λ p. IsWritable format p.1.now) rs
writable_all format rs ms len e all =
    let lent : All (IsNumbered format len) (map (λ (p : ℕ × Bor Kept). (p.0, p.1.now)) rs) = subst (All (IsNumbered format len)) (sym e) all in
    each rs lent
  where
    each : (rs : List (ℕ × Bor Kept)) → All (IsNumbered format len) (map (λ (p : ℕ × Bor Kept). (p.0, p.1.now)) rs)
        → All (λ p. IsWritable format p.1.now) rs
    each [] all = All-nil (λ p. IsWritable format p.1.now)
    each (r ∷ rs) all =
        let rest = map (λ (p : ℕ × Bor Kept). (p.0, p.1.now)) rs in
        All-cons (λ p. IsWritable format p.1.now) r rs
        (writable format kinds.Prio len r.1.now (All-head (IsNumbered format len) (r.0, r.1.now) rest all).object)
        (each rs (All-tail (IsNumbered format len) (r.0, r.1.now) rest all))

-- ---- a slot of one kind of flows

writable_ack : (format : ℕ) (kind : Kind) (ack : Option (Bor Kept)) (len : ℕ) → IfSome (option_map (λ (o : Bor Kept). o.now) ack) (IsObject format kind len)
    → IfSome ack (λ o. IsWritable format o.now)
writable_ack format kind None len good = tt
writable_ack format kind (Some o) len good = writable format kind len o.now good

writable_rels : (format : ℕ) (kind : Kind) (rels : List (Bor Kept)) (len : ℕ) → All (IsObject format kind len) (map (λ (o : Bor Kept). o.now) rels)
    → All (λ o. IsWritable format o.now) rels
writable_rels format kind [] len all = All-nil (λ o. IsWritable format o.now)
writable_rels format kind (o ∷ rels) len all =
    let rest = map (λ (o : Bor Kept). o.now) rels in
    All-cons (λ o. IsWritable format o.now) o rels (writable format kind len o.now (All-head (IsObject format kind len) o.now rest all))
    (writable_rels format kind rels len (All-tail (IsObject format kind len) o.now rest all))

-- its acknowledgement and its messages
pub writable_slot : (format : ℕ) (ack_kind messages : Kind) (slot : Option OutSlot) (report : Option Report) (len : ℕ) → option_map out_report slot ≡ report
    → IfSome report (IsReport format ack_kind messages len) → IfSome slot (IsWritableSlot format)
writable_slot format ack_kind messages None report len said good = tt
writable_slot format ack_kind messages (Some s) None len said good = absurd (cc)
writable_slot format ack_kind messages (Some s) (Some r) len said good =
    let same : out_report s ≡ r = cc in
    let whole : IsReport format ack_kind messages len (out_report s) = subst (IsReport format ack_kind messages len) (sym same) good in
    record { ack = writable_ack format ack_kind s.ack len whole.ack; rels = writable_rels format messages s.rels len whole.rels }

-- one that format 1 lacks
pub writable_paths : (format : ℕ) (slot : Option OutSlot) (report : Option Report) (len : ℕ) → option_map out_report slot ≡ report
    → IfSome report (Later format (IsReport format kinds.Kack kinds.Krel len)) → IfSome slot (IsWritableSlot format)
writable_paths format slot report len said good = writable_slot format kinds.Kack kinds.Krel slot report len said (with_boots report good)
  where
    with_boots : (report : Option Report) → IfSome report (Later format (IsReport format kinds.Kack kinds.Krel len))
        → IfSome report (IsReport format kinds.Kack kinds.Krel len)
    with_boots None good = tt
    with_boots (Some r) good = good.1

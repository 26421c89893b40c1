-- What a poll writes is in the ranges of a frame.
use Rattle.std.proofs.Common.{◌≡◌, ◌<◌, ◌≤◌, ℕ, ◌+◌, ◌-◌, ◌^◌, ◌==◌, nat_lt, max, ◌&&◌, not, Bool, true, false, cond, List, [], ◌∷◌, length, map, drop, take}
use Rattle.std.proofs.Common.{Option, Some}
use Rattle.std.proofs.Common.{None}
use Rattle.std.proofs.Common.{refl, sym, subst, ◌∙◌, arith}
use Rattle.std.specs.Prelude.{IfSome, IsTrue}
use Rattle.std.specs.List.{All, slice_get}
use Rattle.std.specs.Option.{option_and_then, option_map}
use Rattle.std.proofs.lemmas.List.{length-map, length-take}
use Rattle.std.proofs.lemmas.List.Elements.{All-cons, All-head, All-nil, All-take}
use Rattle.sp_base.proofs.FormatLemmas.{few_nodes}
use Rattle.sp_base.specs.Formats.{max_nodes, max_rels}
use Rattle.sp_base.specs.declared.format.TheConstants.{FORMAT_1}
use Rattle.sp_base.specs.declared.id.NodeId.{NodeId}
use Rattle.sp_base.specs.declared.limits.TheConstants.{MAX_MESSAGES}
use Rattle.sp_frame.specs.Objects.{IsObject, is_of, most}
use Rattle.sp_frame.specs.Ranges.{IsContentsIn, IsNumbered, IsReport, Later}
use Rattle.sp_frame.specs.Reliable.{Report}
use Rattle.sp_frame.specs.Sections.{with_document}
use Rattle.sp_frame.specs.Views.{as_list}
use Rattle.sp_frame.specs.declared.kind.Kind.{Kind}
use Rattle.sp_frame.specs.declared.kind.Kind.TheVariants as kinds
use Rattle.sp_msg.specs.Bodies.{HasGoodFieldsIn}
use Rattle.sp_msg.specs.declared.body.Body.{Body}
use Rattle.sp_msg.specs.declared.body.Body.TheVariants as bodies
use Rattle.sp_msg.specs.declared.kept.Kept.{Kept}
use Rattle.sp_rules.specs.Flow.{FlowState, ends}
use Rattle.sp_rules.specs.Lives as lives
use Rattle.sp_rules.specs.Kflow as kflow
use Rattle.sp_rules.specs.Kflow.{KState, first_over, goes_over}
use Rattle.sp_rules.specs.Parts.{is_first, is_signed, place_of}
use Rattle.sp_rules.specs.Node.{NodeState, is_behind, is_shut_to, version_of}
use Rattle.sp_rules.specs.Polls.{as_message, contents_at, contents_to, dated, no_contents, paths_to}
use Rattle.sp_rules.specs.Prio.{is_peer, no_peer, peer_in}
use Rattle.sp_rules.specs.PrioPeer as rows
use Rattle.sp_rules.specs.PrioPeer.{PrioPeer}
use Rattle.sp_rules.specs.Rel.{RelState, flow_at, flow_in, is_to, messages_after, next_place, peer_in as rel_peer_in, slot_for, slot_of, view_in}
use Rattle.sp_rules.specs.Weights.{WeightState, held_in, next, next_row}
use Rattle.sp_rules.specs.declared.lives.Life.{Life}
use Rattle.sp_rules.specs.declared.store.Entry.{Entry}
use Rattle.sp_rules.specs.declared.kflow.FlowKind.{FlowKind}
use Rattle.sp_rules.specs.declared.kflow.FlowKind.TheVariants.{Plain, Paths}
use Rattle.laws_node.specs.Flows.{AckKept, FlowHolds, IsRelOf, RelHolds}
use Rattle.laws_node.specs.HeldBoots.{IsEpochOf, LifeHolds}
use Rattle.laws_node.specs.Laws.{FramesFit}
use Rattle.laws_node.specs.Nodes.{FitsAFrame, NodeHolds, sizes_of}
use Rattle.laws_node.specs.Sizes.{Fits, Sizes, numbers_after}
use Rattle.laws_node.specs.Stores.{IsPrio, PrioPeerHolds}
use Rattle.laws_node.specs.Updates.{IsUpdate, UpdateHolds, WeightsHold}
use Rattle.laws_node.proofs.FlowKinds.{ack_is_of, ack_kind, rel_is_of, rel_kind}
use Rattle.laws_node.proofs.HeldBoots.{boot_fits, next_is_held}
use Rattle.laws_node.proofs.Flight.{Flies, flight_few, flight_holds}
use Rattle.laws_node.proofs.Priority.{all_map, no_peer_holds, row_carried_holds}
use Rattle.laws_node.proofs.Reliable.{read}
use Rattle.laws_node.proofs.Tables.{all_drop_first, all_first, all_get, all_weaker, cond_either, cond_where}

-- ---- objects

object_of : (k : Sizes) (kind : Kind) (len : ℕ) (o : Kept) → k.signature_len ≡ len → len < 65536 → is_of kind o.body ≡ true → Fits k o
    → IsObject k.format kind len o
object_of k kind len o same short is fits = record { fields = fits.fields; is = is; long = fits.long ∙ same; fits = short }

is_weight : (body : Body) → IsUpdate body → is_of kinds.Weight body ≡ true
is_weight (bodies.Weight u) is = refl
is_weight (bodies.Prio p) is = absurd is
is_weight (bodies.Rel r) is = absurd is
is_weight (bodies.Ack a) is = absurd is
is_weight (bodies.Krel a) is = absurd is
is_weight (bodies.Kack a) is = absurd is
is_weight (bodies.Epoch a) is = absurd is

is_prio : (body : Body) → IsPrio body → is_of kinds.Prio body ≡ true
is_prio (bodies.Prio p) is = refl
is_prio (bodies.Weight u) is = absurd is
is_prio (bodies.Rel r) is = absurd is
is_prio (bodies.Ack a) is = absurd is
is_prio (bodies.Krel a) is = absurd is
is_prio (bodies.Kack a) is = absurd is
is_prio (bodies.Epoch a) is = absurd is

-- so many at most, and each of them fits
record FewFit {X : Type 0} (most : ℕ) (P : X → Type 0) (xs : List X) : Type 0 where
  few : length xs ≤ most
  all : All P xs

list_of : {X : Type 0} (P : X → Type 0) (o : Option X) → IfSome o P → FewFit 1 P (as_list o)
list_of P None p = record { few = omega arith; all = All-nil P }
list_of P (Some x) p = record { few = omega arith; all = All-cons P x [] p (All-nil P) }

-- ---- the weight

weight_fits : (k : Sizes) (index len : ℕ) (w : WeightState) (v : ℕ) → k.signature_len ≡ len → len < 65536 → WeightsHold k index w
    → IfSome (next w v) (IsObject k.format kinds.Weight len)
weight_fits k index len w v same short h = go (next_row w v)
  where
    held : (row : ℕ) (o : Option Kept) → IfSome o (UpdateHolds k index row) → IfSome o (IsObject k.format kinds.Weight len)
    held row None is = tt
    held row (Some o) is = object_of k kinds.Weight len o same short (is_weight o.body is.kind) is.fits

    go : (row : Option ℕ) → IfSome (option_and_then (held_in w.rows) row) (IsObject k.format kinds.Weight len)
    go None = tt
    go (Some row) = held row (held_in w.rows row) (h.rows row)

-- ---- the priority messages

numbered_fits : (k : Sizes) (len last most : ℕ) → k.signature_len ≡ len → len < 65536 → most < 2 ^ 64 → (m : ℕ × Entry) → Flies k last most m
    → IsNumbered k.format len (as_message m)
numbered_fits k len last most same short small m h = record {
  number = omega (arith, h.number, small);
  object = object_of k kinds.Prio len m.1.kept same short (is_prio m.1.kept.body h.entry.kind) h.entry.fits;
}

messages_fit : (k : Sizes) (numbers ids len : ℕ) (q : PrioPeer) → k.signature_len ≡ len → len < 65536 → numbers + MAX_MESSAGES < 2 ^ 64
    → PrioPeerHolds k numbers ids q → FewFit MAX_MESSAGES (IsNumbered k.format len) (map as_message (rows.next_prios q))
messages_fit k numbers ids len q same short small h =
    let after = row_carried_holds k numbers ids q h in
    let few = flight_few (rows.carried q) in
    record {
      few = omega (arith, length-map (rows.next_prios q) as_message, few, after.few);
      all = all_map (Flies k (rows.carried q).store.last (rows.carried q).number) (IsNumbered k.format len) as_message
          (numbered_fits k len (rows.carried q).store.last (rows.carried q).number same short (omega (arith, small, after.number)))
          (rows.next_prios q) (flight_holds k _ ids (rows.carried q) after);
    }

-- ---- the slot

pub get_holds : {X : Type 0} (P : X → Type 0) (xs : List X) (i : ℕ) → All P xs → IfSome (slice_get xs i) P
get_holds P xs i all = go (slice_get xs i) refl
  where
    go : (o : Option _) → slice_get xs i ≡ o → IfSome o P
    go None is = tt
    go (Some x) is = all_get P xs i x all is

both_hold : {X : Type 0} (P Q : X → Type 0) (xs : List X) → All P xs → All Q xs → All (λ x. P x × Q x) xs
both_hold P Q xs p q = λ i d within. (p i d within, q i d within)

pub weaker : {X : Type 0} (P Q : X → Type 0) (o : Option X) → ((x : X) → P x → Q x) → IfSome o P → IfSome o Q
weaker P Q None step p = tt
weaker P Q (Some x) step p = step x p

-- the first messages after any place
rels_fit : (kind : FlowKind) (k : Sizes) (index len number : ℕ) (f : FlowState) → k.signature_len ≡ len → len < 65536 → FlowHolds kind k index f
    → All (IsObject k.format (rel_kind kind) len) (messages_after f.at number)
rels_fit kind k index len number f same short h =
    All-take (IsObject k.format (rel_kind kind) len) MAX_MESSAGES (drop (number - f.at.base) f.at.list)
    (all_drop_first (IsObject k.format (rel_kind kind) len) (number - f.at.base) f.at.list
    (all_weaker (λ m. Fits k m × IsRelOf kind m.body) (IsObject k.format (rel_kind kind) len) f.at.list
    (λ m both. object_of k (rel_kind kind) len m same short (rel_is_of kind m.body both.1) both.0)
    (both_hold (Fits k) (λ m. IsRelOf kind m.body) f.at.list h.messages h.reliable)))

ack_fits : (kind : FlowKind) (k : Sizes) (index len : ℕ) (f : FlowState) → k.signature_len ≡ len → len < 65536 → FlowHolds kind k index f
    → IfSome f.ack (IsObject k.format (ack_kind kind) len)
ack_fits kind k index len f same short h =
    weaker (AckKept kind k (ends f)) (IsObject k.format (ack_kind kind) len) f.ack
    (λ o is. object_of k (ack_kind kind) len o same short (ack_is_of kind (ends f) o.body is.is_ack) is.fits) h.ack

-- a report but for its boots and the number of its messages
record SlotFits (kind : FlowKind) (k : Sizes) (len : ℕ) (r : Report) : Type 0 where
  src : r.flow.src.0 < 256
  dst : r.flow.dst.0 < 256
  base : r.base < 2 ^ 64
  have : r.have < 2 ^ 64
  ack : IfSome r.ack (IsObject k.format (ack_kind kind) len)
  rels : All (IsObject k.format (rel_kind kind) len) r.rels

small_id : (format id : ℕ) → id ≤ max_nodes format → id < 256
small_id format id small = omega (arith, small, few_nodes format)

slot_of_fits : (kind : FlowKind) (k : Sizes) (index len : ℕ) (r : RelState) (v : NodeId) (row : FlowState) → k.signature_len ≡ len → len < 65536
    → RelHolds kind k index r
    → FlowHolds kind k index row → SlotFits kind k len (slot_of r v (ends row))
slot_of_fits kind k index len r v row same short h there =
    let flow = ends row in
    let f = flow_in r.flows flow in
    let w = view_in (rel_peer_in r.peers v).views flow in
    let holds = read kind k index r.flows flow there.src there.dst h.flows in
    record {
      src = small_id k.format row.src.0 there.src.1;
      dst = small_id k.format row.dst.0 there.dst.1;
      base = omega (arith, holds.standing.sound, holds.standing.numbers);
      have = omega (arith, holds.standing.numbers);
      ack = cond_either (λ o. IfSome o (IsObject k.format (ack_kind kind) len)) (nat_lt w.base f.at.base) f.ack None
          (ack_fits kind k index len f same short holds) tt;
      rels = cond_either (All (IsObject k.format (rel_kind kind) len)) (is_to r flow) [] (messages_after f.at (max w.have f.at.base))
          (All-nil (IsObject k.format (rel_kind kind) len)) (rels_fit kind k index len (max w.have f.at.base) f same short holds);
    }

-- with the boots that are held, and as many messages as the format allows
dated_fits : (kind : FlowKind) (k : Sizes) (len : ℕ) (lives : List Life) (r : Report) → All (LifeHolds k) lives → SlotFits kind k len r
    → length (take (max_rels k.format) r.rels) ≤ most k.format (rel_kind kind)
    → IsReport k.format (ack_kind kind) (rel_kind kind) len (dated k.format lives r)
dated_fits kind k len lives r held fits few = record {
  src = fits.src;
  dst = fits.dst;
  sboot = boot_fits k lives r.flow.src held;
  dboot = boot_fits k lives r.flow.dst held;
  base = fits.base;
  have = fits.have;
  ack = fits.ack;
  few = few;
  rels = All-take (IsObject k.format (rel_kind kind) len) (max_rels k.format) r.rels fits.rels;
}

slot_fits : (kind : FlowKind) (k : Sizes) (index len : ℕ) (r : RelState) (v : NodeId) → k.signature_len ≡ len → len < 65536 → RelHolds kind k index r
    → IfSome (slot_for r v) (SlotFits kind k len)
slot_fits kind k index len r v same short h = go (next_place r v)
  where
    at : (o : Option FlowState) → IfSome o (FlowHolds kind k index) → IfSome (option_map (slot_of r v) (option_map ends o)) (SlotFits kind k len)
    at None there = tt
    at (Some f) there = slot_of_fits kind k index len r v f same short h there

    go : (place : Option ℕ) → IfSome (option_map (slot_of r v) (option_and_then (flow_at r.flows) place)) (SlotFits kind k len)
    go None = tt
    go (Some place) = at (slice_get r.flows place) (get_holds (FlowHolds kind k index) r.flows place h.flows)

-- what is made of it
made : {X Y : Type 0} (P : X → Type 0) (Q : Y → Type 0) (f : X → Y) (o : Option X) → ((x : X) → P x → Q (f x)) → IfSome o P → IfSome (option_map f o) Q
made P Q f None step p = tt
made P Q f (Some x) step p = step x p

-- the slot of plain flows
plain_fits : (k : Sizes) (index len : ℕ) (r : RelState) (lives : List Life) (v : NodeId) → k.signature_len ≡ len → len < 65536 → RelHolds Plain k index r
    → All (LifeHolds k) lives → IfSome (option_map (dated k.format lives) (slot_for r v)) (IsReport k.format kinds.Ack kinds.Rel len)
plain_fits k index len r lives v same short h held =
    made (SlotFits Plain k len) (IsReport k.format kinds.Ack kinds.Rel len) (dated k.format lives) (slot_for r v)
    (λ s fits. dated_fits Plain k len lives s held fits (omega (arith, length-take (max_rels k.format) s.rels)))
    (slot_fits Plain k index len r v same short h)

-- the first message, where it may go over the edge
over_all : (P : Kept → Type 0) (edge : ℕ) (os : List Kept) → All P os → All P (first_over edge os)
over_all P edge [] all = All-nil P
over_all P edge (o ∷ os) all =
    cond_either (All P) (goes_over edge o.body) (o ∷ []) [] (All-cons P o [] (All-head P o os all) (All-nil P)) (All-nil P)

over_few : (edge : ℕ) (os : List Kept) → length (first_over edge os) ≤ 1
over_few edge [] = omega arith
over_few edge (o ∷ os) = cond_either (λ (xs : List Kept). length xs ≤ 1) (goes_over edge o.body) (o ∷ []) [] (omega arith) (omega arith)

record OverFits (k : Sizes) (len : ℕ) (r : Report) : Type 0 where
  slot : SlotFits Paths k len r
  few : length r.rels ≤ 1

over_fits : (k : Sizes) (len edge : ℕ) (r : Report) → SlotFits Paths k len r → OverFits k len (kflow.over_edge edge r)
over_fits k len edge r fits = record {
  slot = record {
    src = fits.src;
    dst = fits.dst;
    base = fits.base;
    have = fits.have;
    ack = fits.ack;
    rels = over_all (IsObject k.format kinds.Krel len) edge r.rels fits.rels;
  };
  few = over_few edge r.rels;
}

-- the slot of flows on paths, in a format that has them
paths_fit : (k : Sizes) (index len : ℕ) (f : KState) (lives : List Life) (v : NodeId) → k.signature_len ≡ len → len < 65536
    → RelHolds Paths k index f.flows → All (LifeHolds k) lives → (k.format == FORMAT_1) ≡ false
    → IfSome (option_map (dated k.format lives) (kflow.slot_for f v)) (Later k.format (IsReport k.format kinds.Kack kinds.Krel len))
paths_fit k index len f lives v same short h held later =
    made (OverFits k len) (Later k.format (IsReport k.format kinds.Kack kinds.Krel len)) (dated k.format lives) (kflow.slot_for f v)
    (λ s fits. (later, dated_fits Paths k len lives s held fits.slot (let few = fits.few in omega (arith, length-take (max_rels k.format) s.rels, few))))
    (made (SlotFits Paths k len) (OverFits k len) (kflow.over_edge (kflow.edge_to f v)) (slot_for f.flows v)
    (over_fits k len (kflow.edge_to f v)) (slot_fits Paths k index len f.flows v same short h))

-- ---- the Epoch object

is_epoch : (v : NodeId) (body : Body) → IsEpochOf v body → is_of kinds.Epoch body ≡ true
is_epoch v (bodies.Epoch e) is = refl
is_epoch v (bodies.Prio b) is = absurd is
is_epoch v (bodies.Rel b) is = absurd is
is_epoch v (bodies.Ack b) is = absurd is
is_epoch v (bodies.Weight b) is = absurd is
is_epoch v (bodies.Krel b) is = absurd is
is_epoch v (bodies.Kack b) is = absurd is

-- format 1 has none
not_first : (format : ℕ) (v : NodeId) (body : Body) → IsEpochOf v body → HasGoodFieldsIn format body → (format == FORMAT_1) ≡ false
not_first format v (bodies.Epoch e) is good = go (format == FORMAT_1) good.0
  where
    go : (t : Bool) → cond t false true ≡ true → t ≡ false
    go true e = absurd (cc)
    go false e = refl
not_first format v (bodies.Prio b) is good = absurd is
not_first format v (bodies.Rel b) is good = absurd is
not_first format v (bodies.Ack b) is good = absurd is
not_first format v (bodies.Weight b) is good = absurd is
not_first format v (bodies.Krel b) is good = absurd is
not_first format v (bodies.Kack b) is good = absurd is

epoch_fits : (k : Sizes) (len : ℕ) (known : List Life) (origins : List (Option ℕ)) (v : ℕ) → k.signature_len ≡ len → len < 65536
    → All (LifeHolds k) known → IfSome (lives.next known origins v) (Later k.format (IsObject k.format kinds.Epoch len))
epoch_fits k len known origins v same short held =
    next_is_held k (Later k.format (IsObject k.format kinds.Epoch len)) known origins v
    (λ u o is. (
      not_first k.format u o.body is.kind is.fits.fields,
      object_of k kinds.Epoch len o same short (is_epoch u o.body is.kind) is.fits,
    )) held

-- ---- the frame

contents_fit : (k : Sizes) (n : NodeState) (v : NodeId) → NodeHolds k n
    → IsContentsIn n.fixed.topology.format n.fixed.signature_len (contents_to n.fixed n.parts v)
contents_fit k n v h =
    let len = n.fixed.signature_len in
    let same : k.signature_len ≡ len = sym h.fixed.signature_len in
    let q = peer_in n.parts.prio v.0 in
    let row = all_first (PrioPeerHolds k (numbers_after n.calls) _) (is_peer v.0) no_peer n.parts.prio.peers h.parts.prio.peers
    (no_peer_holds k (numbers_after n.calls) _) in
    let weights = list_of (IsObject k.format kinds.Weight len) (next n.parts.weights (place_of n.fixed v))
    (weight_fits k n.signer.index len n.parts.weights (place_of n.fixed v) same h.fixed.short h.parts.weights) in
    let prios = messages_fit k (numbers_after n.calls) _ len q same h.fixed.short (omega (arith, h.calls)) row in
    let slot : IfSome (option_map (dated n.fixed.topology.format n.parts.lives) (slot_for n.parts.rel v)) (IsReport k.format kinds.Ack kinds.Rel len) =
    subst (λ (format : ℕ). IfSome (option_map (dated format n.parts.lives) (slot_for n.parts.rel v)) (IsReport k.format kinds.Ack kinds.Rel len))
    (sym h.fixed.format) (plain_fits k n.signer.index len n.parts.rel n.parts.lives v same h.fixed.short h.parts.rel h.parts.lives) in
    let paths : IfSome (paths_to n.fixed n.parts v) (Later k.format (IsReport k.format kinds.Kack kinds.Krel len)) =
    cond_where (λ (o : Option Report). IfSome o (Later k.format (IsReport k.format kinds.Kack kinds.Krel len))) (is_first n.fixed) None
    (option_map (dated n.fixed.topology.format n.parts.lives) (kflow.slot_for n.parts.kflow v)) (λ first. tt)
    (λ other.
    subst (λ (format : ℕ). IfSome (option_map (dated format n.parts.lives) (kflow.slot_for n.parts.kflow v))
    (Later k.format (IsReport k.format kinds.Kack kinds.Krel len))) (sym h.fixed.format)
    (paths_fit k n.signer.index len n.parts.kflow n.parts.lives v same h.fixed.short h.parts.kflow h.parts.lives
    (subst (λ (format : ℕ). (format == FORMAT_1) ≡ false) h.fixed.format other))) in
    subst (λ (format : ℕ). IsContentsIn format len (contents_to n.fixed n.parts v)) (sym h.fixed.format) (record {
      document = tt;
      few_weights = weights.few;
      weights = weights.all;
      prio_ack = row.heard;
      few_prios = prios.few;
      prios = prios.all;
      slot = slot;
      paths = paths;
      probe = tt;
      epoch = epoch_fits k len n.parts.lives n.parts.origins (place_of n.fixed v) same h.fixed.short h.parts.lives;
    })

-- a frame without sections
none_fit : (format len : ℕ) → IsContentsIn format len no_contents
none_fit format len = record {
  document = tt;
  few_weights = omega arith;
  weights = All-nil (IsObject format kinds.Weight len);
  prio_ack = omega arith;
  few_prios = omega arith;
  prios = All-nil (IsNumbered format len);
  slot = tt;
  paths = tt;
  probe = tt;
  epoch = tt;
}

-- a frame with a document
document_fits : (format len : ℕ) (document : List ℕ) → (format == FORMAT_1) ≡ false → FitsAFrame document → IsContentsIn format len (with_document document)
document_fits format len document later fits = record {
  document = (later, record { short = let few = fits.1 in omega (arith, few); alone = refl });
  few_weights = omega arith;
  weights = All-nil (IsObject format kinds.Weight len);
  prio_ack = omega arith;
  few_prios = omega arith;
  prios = All-nil (IsNumbered format len);
  slot = tt;
  paths = tt;
  probe = tt;
  epoch = tt;
}

changing : (first above below : Bool) → (not first && above && below) ≡ true → first ≡ false
changing false above below e = refl
changing true above below e = absurd (cc)

-- each of the three kinds
pub frame_fits : (k : Sizes) (n : NodeState) (v : NodeId) → NodeHolds k n
    → IsContentsIn n.fixed.topology.format n.fixed.signature_len (contents_at n v)
frame_fits k n v h =
    let format = n.fixed.topology.format in
    let len = n.fixed.signature_len in
    let else_what = cond (is_shut_to n v) no_contents (contents_to n.fixed n.parts v) in
    cond_where (IsContentsIn format len) (is_behind n v) (with_document n.live.document) else_what
    (λ behind. document_fits format len n.live.document
    (changing (format == FORMAT_1) (nat_lt 0 (version_of n v)) (nat_lt (version_of n v) n.live.version) behind) h.live.document)
    (λ level. cond_either (IsContentsIn format len) (is_shut_to n v) no_contents (contents_to n.fixed n.parts v) (none_fit format len) (contents_fit k n v h))

pub frames_fit : FramesFit
frames_fit arts n v h = frame_fits (sizes_of (λ o. IsTrue (is_signed arts n.fixed o)) n) n v h

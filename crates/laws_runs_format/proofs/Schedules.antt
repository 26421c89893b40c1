-- An event that its line allows after those before it is in its range in a run.
use Rattle.std.proofs.Common.{◌≡◌, ◌<◌, ◌≤◌, ℕ, zero, suc, ◌+◌, ◌==◌, ◌-◌, ◌^◌, Bool, true, false, cond, not, nat_le, List, [], ◌∷◌, ◌++◌, length}
use Rattle.std.proofs.Common.{length-append, map, refl, sym, ap, ap₂, subst, ◌∙◌, inl, inr, arith, append_assoc}
use Rattle.std.specs.Prelude.{◌⊎◌, ◌&&◌, ◌||◌, Option, Some, None, count_by, nat_lt, if◌then◌else◌}
use Rattle.std.specs.List.{All, list_any, range_with_len}
use Rattle.std.proofs.lemmas.Bool.{cases_Bool, eqb-true, eq-eqb}
use Rattle.std.proofs.lemmas.Bool.Decides.{nat_tests}
use Rattle.std.proofs.lemmas.List.{same_from_push}
use Rattle.std.proofs.lemmas.List.Elements.{All-nil}
use Rattle.std.proofs.lemmas.List.Sums.{length-filter, sum_by-cons}
use Rattle.sp_base.specs.declared.id.NodeId.{NodeId}
use Rattle.sp_topology.specs.declared.topology.LmsHeight.{LmsHeight}
use Rattle.sp_topology.specs.declared.topology.LmsHeight.TheVariants.{Five, Ten}
use Rattle.sp_topology.specs.declared.topology.NodeKey.{NodeKey}
use Rattle.sp_schedule.specs.Scenarios.{AreInRange, IsSchedule, None_yet, One_more}
use Rattle.sp_base.specs.Formats.{by_format}
use Rattle.sp_base.specs.declared.format.TheConstants.{FORMAT_1}
use Rattle.sp_base.specs.declared.limits.TheConstants.{MAX_EDGES, MAX_EVENTS, MAX_WEIGHT}
use Rattle.sp_hss.specs.KeyTree.{total}
use Rattle.sp_msg.proofs.GoodFields.{GoodKack, GoodKrel, GoodMask, ack_is_good, prio_is_good, rel_is_good, weight_is_good}
use Rattle.sp_msg.specs.Bodies.{HasGoodFieldsIn}
use Rattle.sp_msg.specs.Fields.{IsInRange, free, ranged}
use Rattle.sp_msg.specs.declared.body.Body.TheVariants as bodies
use Rattle.sp_msg.specs.declared.body.Kack.{Kack}
use Rattle.sp_msg.specs.declared.body.Krel.{Krel}
use Rattle.sp_msg.specs.declared.mask.Mask.{Mask}
use Rattle.sp_msg.specs.declared.refused.Field.TheVariants as fields
use Rattle.sp_schedule_crafts.specs.declared.object.CraftedObject.{CraftedObject}
use Rattle.sp_schedule_crafts.specs.declared.object.CraftedObject.TheVariants as crafted
use Rattle.sp_schedule_events.specs.EventLines as lines
use Rattle.sp_schedule_events.specs.Events as lined
use Rattle.sp_schedule_events.specs.Scenarios as scenarios
use Rattle.sp_schedule_events.specs.Documents.{documents, has_index, has_weights, may_craft, may_publish, none_comes_back, published}
use Rattle.sp_schedule_events.specs.Scenarios.{are_joined, differ, has_documents, has_paths}
use Rattle.sp_sign.specs.Heights.{param_of}
use Rattle.sp_schedule_events.specs.declared.event.Event.{Event}
use Rattle.sp_schedule_events.specs.declared.event.Event.TheVariants as events
use Rattle.sp_schedule_events.specs.declared.scenario.Scenario.{Scenario}
use Rattle.sp_runs.specs.Runs.{AreFields, InRange, IsMade, MayPublish, is_other, is_poll, polls}
use Rattle.sp_runs.specs.Scenarios.{IsHeader, node_key, setting_of}
use Rattle.sp_runs.specs.Settings.{is_correct, is_node}
use Rattle.laws_runs.proofs.Counts.{poll_more}
use Rattle.laws_runs.proofs.CraftRanges.{no_boot}
use Rattle.laws_runs.proofs.Lists.{both}
use Rattle.laws_runs_format.specs.Schedules.{ScheduledEventsAreInRange}

-- ---- the header

-- the scenario of a schedule is that of a header
pub header_of : (s : Scenario) (es : List Event) → IsSchedule s es → IsHeader s
header_of s es good = record { format = good.scenario.format; graph = good.scenario.graph; epochs = good.scenario.epochs }

-- ---- nodes

there : (h : LmsHeight) (seed : List ℕ) (first count u : ℕ) → first ≤ u → u < first + count
    → list_any (λ (n : NodeId). n.0 == u) (map (λ (n : NodeKey). n.id) (map (node_key h seed) (range_with_len first count))) ≡ true
there h seed first zero u least most = absurd (omega (arith, least, most))
there h seed first (suc count) u least most = elim (cases_Bool (first == u)) [
  | inl t ↦ rw t refl
  | inr t ↦
      let other : first ≡ u → ⊥ = λ same. absurd (let wrong : true ≡ false = sym (eq-eqb first u same) ∙ t in cc) in
      rw t (there h seed (first + 1) count u (above first u least other) (omega (arith, most)))
]
  where
    above : (a b : ℕ) → a ≤ b → (a ≡ b → ⊥) → a + 1 ≤ b
    above a b least other = omega (arith, least, other)

node_is : (s : Scenario) (u : NodeId) → 1 ≤ u.0 → u.0 ≤ s.graph.nodes → is_node (setting_of s) u ≡ true
node_is s u least most = there s.height s.seed 1 s.graph.nodes u.0 least (omega (arith, most))

correct_is : (s : Scenario) (u : NodeId) → 1 ≤ u.0 → u.0 ≤ s.graph.nodes → scenarios.is_correct s u.0 ≡ true → is_correct (setting_of s) u ≡ true
correct_is s u least most good = rw (node_is s u least most, good) refl

other_is : (s : Scenario) (u v : NodeId) → 1 ≤ v.0 → v.0 ≤ s.graph.nodes → differ u.0 v.0 ≡ true → is_other (setting_of s) u v ≡ true
other_is s u v least most apart = rw (node_is s v least most, apart) refl

-- ---- polls

same_poll : (a b : NodeId) (e : Event) → lined.is_poll a.0 b.0 e ≡ is_poll a b e
same_poll a b (events.Rel u v p) = refl
same_poll a b (events.Prio u v c d f p) = refl
same_poll a b (events.Take u v) = refl
same_poll a b (events.TakePrio u) = refl
same_poll a b (events.Tick u n) = refl
same_poll a b (events.Weight u v n) = refl
same_poll a b (events.Poll u v) = refl
same_poll a b (events.Pass u v n) = refl
same_poll a b (events.Flip u v n c d) = refl
same_poll a b (events.Inject u v p) = refl
same_poll a b (events.Craft u v k o) = refl
same_poll a b (events.CraftStatus u v c d f g) = refl
same_poll a b (events.Publish u weights) = refl
same_poll a b (events.CraftDocument u v k n weights) = refl
same_poll a b (events.Start u) = refl
same_poll a b (events.Stop u) = refl
same_poll a b (events.Krel u v c p) = refl
same_poll a b (events.KTake u v) = refl

same_count : (a b : NodeId) (es : List Event) → count_by (lined.is_poll a.0 b.0) es ≡ polls es a b
same_count a b [] = refl
same_count a b (e ∷ es) =
    sum_by-cons (λ y. cond (lined.is_poll a.0 b.0 y) 1 0) e es
    ∙ ap₂ (λ (t : Bool) (n : ℕ). cond t 1 0 + n) (same_poll a b e) (same_count a b es)
    ∙ sym (sum_by-cons (λ y. cond (is_poll a b y) 1 0) e es)

same_polls : (a b : NodeId) (es : List Event) → lined.polls es a.0 b.0 ≡ polls es a b
same_polls a b es = length-filter (lined.is_poll a.0 b.0) es ∙ same_count a b es

made : (es : List Event) (u v : NodeId) (number : ℕ) → lined.is_polled es u.0 v.0 number ≡ true → IsMade es u v number
made es u v number is =
    let parts = both (nat_le 1 number) (nat_le number (lined.polls es u.0 v.0)) is in
    let low = parts.0 in
    let high = parts.1 in
    (grind (arith, nat_tests, low), subst (λ n. number ≤ n) (same_polls u v es) (grind (arith, nat_tests, high)))

poll_joins : (s : Scenario) (es : List Event) (a b : NodeId) (e : Event) → lines.InRange s es e → is_poll a b e ≡ true → are_joined s a.0 b.0 ≡ true
poll_joins s es a b (events.Poll u v) is t =
    let parts = both (u.0 == a.0) (v.0 == b.0) t in
    subst (λ n. are_joined s n b.0 ≡ true) (eqb-true u.0 a.0 parts.0) (subst (λ n. are_joined s u.0 n ≡ true) (eqb-true v.0 b.0 parts.1) is.joined)
poll_joins s es a b (events.Rel u v p) is t = absurd cc
poll_joins s es a b (events.Prio u v c d f p) is t = absurd cc
poll_joins s es a b (events.Take u v) is t = absurd cc
poll_joins s es a b (events.TakePrio u) is t = absurd cc
poll_joins s es a b (events.Tick u n) is t = absurd cc
poll_joins s es a b (events.Weight u v n) is t = absurd cc
poll_joins s es a b (events.Pass u v n) is t = absurd cc
poll_joins s es a b (events.Flip u v n c d) is t = absurd cc
poll_joins s es a b (events.Inject u v p) is t = absurd cc
poll_joins s es a b (events.Craft u v k o) is t = absurd cc
poll_joins s es a b (events.CraftStatus u v c d f g) is t = absurd cc
poll_joins s es a b (events.Publish u weights) is t = absurd cc
poll_joins s es a b (events.CraftDocument u v k n weights) is t = absurd cc
poll_joins s es a b (events.Start u) is t = absurd cc
poll_joins s es a b (events.Stop u) is t = absurd cc
poll_joins s es a b (events.Krel u v c p) is t = absurd cc
poll_joins s es a b (events.KTake u v) is t = absurd cc

-- a frame was made between neighbours alone
polled_joins : (s : Scenario) (es : List Event) → AreInRange s es → (a b : NodeId) → 1 ≤ polls es a b → are_joined s a.0 b.0 ≡ true
polled_joins s es None_yet a b some = absurd (omega (arith, some))
polled_joins s es (One_more {before = before} e are is) a b some = elim (cases_Bool (is_poll a b e)) [
  | inl t ↦ poll_joins s before a b e is t
  | inr t ↦
      let more : polls (before ++ e ∷ []) a b ≡ polls before a b + 0 = poll_more before e a b ∙ ap (λ y. polls before a b + cond y 1 0) t in
      polled_joins s before are a b (omega (arith, some, more))
]

-- ---- one event

abbrev Lined : Scenario → List Event → Event → Type 0
Lined s es e = lines.InRange s es e

-- a mask in its line is one of the format
good_mask : (format : ℕ) (mask : Mask) → mask.high < by_format format 1 (2 ^ 128) → mask.low < by_format format (2 ^ MAX_EDGES) (2 ^ 128) → GoodMask format mask
good_mask format mask high low = record { high = high_in (format == FORMAT_1) high; low = low_in (format == FORMAT_1) low }
  where
    high_in : (b : Bool) → mask.high < (if b then 1 else 2 ^ 128) → mask.high < 256 ^ (if b then 0 else 16)
    high_in true small = small
    high_in false small = small

    low_in : (b : Bool) → mask.low < (if b then 2 ^ MAX_EDGES else 2 ^ 128)
        → IsInRange (if b then ranged fields.Mask 16 0 (2 ^ MAX_EDGES - 1) else free 16) mask.low
    low_in true small = (omega arith, omega (arith, small))
    low_in false small = small

-- kinds of flows on paths are those of a later format
has_later : (format : ℕ) → not (format == FORMAT_1) ≡ true → by_format format false true ≡ true
has_later format later = go (format == FORMAT_1) later
  where
    go : (t : Bool) → not t ≡ true → (if t then false else true) ≡ true
    go true e = absurd (let wrong : false ≡ true = e in cc)
    go false e = refl

krel_is_good : (format : ℕ) (r : Krel) → not (format == FORMAT_1) ≡ true → GoodKrel format r → HasGoodFieldsIn format (bodies.Krel r)
krel_is_good format r later is =
    (has_later format later, (is.src, (is.dst, (is.sboot, (is.dboot, (is.seq, (is.mask.high, (is.mask.low, ((omega arith, is.payload), tt)))))))))

kack_is_good : (format : ℕ) (a : Kack) → not (format == FORMAT_1) ≡ true → GoodKack format a → HasGoodFieldsIn format (bodies.Kack a)
kack_is_good format a later is = (has_later format later, (is.src, (is.dst, (is.sboot, (is.dboot, (is.seq, tt))))))

crafted_in : (s : Scenario) (es : List Event) (c v key : NodeId) (object : CraftedObject) → Lined s es (events.Craft c v key object)
    → AreFields (setting_of s) es (events.Craft c v key object)
crafted_in s es c v key (crafted.Rel r) is =
    let to = is.values.2 in
    let by = to.3 in
    let src = by.2 in
    let dst = src.2 in
    let seq = dst.2 in
    let payload = seq.2.0 in (
      correct_is s v to.0 to.1 to.2,
      is.joined,
      node_is s key by.0 by.1,
      rel_is_good s.format (record { src = r.src; dst = r.dst; sboot = 0; dboot = 0; seq = r.seq; payload = r.payload })
          (record {
            src = (src.0, src.1);
            dst = (dst.0, dst.1);
            sboot = no_boot s.format;
            dboot = no_boot s.format;
            seq = (seq.0, seq.1);
            payload =
                payload.1;
          }),
      payload.2,
    )
crafted_in s es c v key (crafted.Ack a) is =
    let to = is.values.2 in
    let by = to.3 in
    let src = by.2 in
    let dst = src.2 in
    let seq = dst.2 in (
      correct_is s v to.0 to.1 to.2,
      is.joined,
      node_is s key by.0 by.1,
      ack_is_good s.format (record { src = a.src; dst = a.dst; sboot = 0; dboot = 0; seq = a.seq })
          (record { src = (src.0, src.1); dst = (dst.0, dst.1); sboot = no_boot s.format; dboot = no_boot s.format; seq = (seq.0, seq.1) }),
      All-nil (λ (b : ℕ). b < 256),
    )
crafted_in s es c v key (crafted.Prio p) is =
    let to = is.values.2 in
    let by = to.3 in
    let src = by.2 in
    let dst = src.2 in
    let seq = dst.2 in
    let prio = seq.2 in
    let expiry = prio.2 in
    let mask = expiry.2 in
    let payload = mask.1.0 in (
      correct_is s v to.0 to.1 to.2,
      is.joined,
      node_is s key by.0 by.1,
      prio_is_good s.format
          (record { src = p.src; dst = p.dst; sboot = 0; seq = p.seq; prio = p.prio; expiry = p.expiry; mask = p.mask; payload = p.payload }) (record {
            src = (src.0, src.1);
            dst = (dst.0, dst.1);
            sboot = no_boot s.format;
            seq = (seq.0, seq.1);
            prio = (prio.0, prio.1);
            expiry = omega (arith, expiry.1);
            mask = good_mask s.format p.mask mask.0.high mask.0.low;
            payload = payload.1;
          }),
      payload.2,
    )
crafted_in s es c v key (crafted.Weight w) is =
    let to = is.values.2 in
    let by = to.3 in
    let origin = by.2 in
    let edge = origin.2 in
    let seq = edge.2 in
    let weight = seq.2 in (
      correct_is s v to.0 to.1 to.2,
      is.joined,
      node_is s key by.0 by.1,
      weight_is_good s.format w (record { origin = (origin.0, origin.1); edge = edge.1; seq = (seq.0, seq.1); weight = (weight.0, weight.1) }),
      All-nil (λ (b : ℕ). b < 256),
    )
crafted_in s es c v key (crafted.Krel r) is =
    let to = is.values.2 in
    let by = to.3 in
    let src = by.2 in
    let dst = src.2 in
    let seq = dst.2 in
    let mask = seq.2 in
    let payload = mask.1.0 in
    let parts = both (lined.has_object s (crafted.Krel r)) (are_joined s c.0 v.0) is.joined in (
      correct_is s v to.0 to.1 to.2,
      parts.1,
      node_is s key by.0 by.1,
      krel_is_good s.format (record { src = r.src; dst = r.dst; sboot = 0; dboot = 0; seq = r.seq; mask = r.mask; payload = r.payload }) parts.0 (record {
        src = (src.0, src.1);
        dst = (dst.0, dst.1);
        sboot = no_boot s.format;
        dboot = no_boot s.format;
        seq = (seq.0, seq.1);
        mask = good_mask s.format r.mask mask.0.high mask.0.low;
        payload = payload.1;
      }),
      payload.2,
    )
crafted_in s es c v key (crafted.Kack a) is =
    let to = is.values.2 in
    let by = to.3 in
    let src = by.2 in
    let dst = src.2 in
    let seq = dst.2 in
    let parts = both (lined.has_object s (crafted.Kack a)) (are_joined s c.0 v.0) is.joined in (
      correct_is s v to.0 to.1 to.2,
      parts.1,
      node_is s key by.0 by.1,
      kack_is_good s.format (record { src = a.src; dst = a.dst; sboot = 0; dboot = 0; seq = a.seq }) parts.0
          (record { src = (src.0, src.1); dst = (dst.0, dst.1); sboot = no_boot s.format; dboot = no_boot s.format; seq = (seq.0, seq.1) }),
      All-nil (λ (b : ℕ). b < 256),
    )

-- ---- documents

-- the administrator's key signs as many as it has indexes
documents_are : (h : LmsHeight) → documents h ≡ total (param_of h)
documents_are Five = refl
documents_are Ten = refl

publish_in : (s : Scenario) (es : List Event) (weights : List ℕ) → length weights ≡ length s.graph.edges → All (λ weight. weight ≤ MAX_WEIGHT) weights
    → may_publish s (published es) (Some weights) ≡ true → MayPublish (setting_of s) (published es) (Some weights)
publish_in s es weights long small may =
    let last = published es in
    let parts = both (nat_lt last.version (documents s.height)) (none_comes_back s.graph.edges last.weights weights) may in
    let below : last.version < documents s.height = let t = parts.0 in grind (arith, nat_tests, t) in
    ((long, small), subst (λ n. last.version < n) (documents_are s.height) below, parts.1)

-- the key of a document is the administrator's, or that of a node
signer_is : (s : Scenario) (key : ℕ) → key ≤ s.graph.nodes → ((key == 0) || is_node (setting_of s) (record { 0 = key })) ≡ true
signer_is s key most = elim (cases_Bool (key == 0)) [
  | inl t ↦ rw t refl
  | inr t ↦ let some : 1 ≤ key = grind (arith, nat_tests, t) in rw t (node_is s (record { 0 = key }) some most)
]

index_left : (s : Scenario) (key version : ℕ) → has_index s.height key version ≡ true → key ≡ 0 → version ≤ total (param_of s.height)
index_left s key version has admin =
    let own : (key == 0) ≡ true = eq-eqb key 0 admin in
    let below : nat_le version (documents s.height) ≡ true = rw own at has in
    subst (λ n. version ≤ n) (documents_are s.height) (grind (arith, nat_tests, below))

-- what a crafted document has beside its weights
record IsDocumentLine (s : Scenario) (es : List Event) (c v : NodeId) (key version : ℕ) (weights : Option (List ℕ)) : Type 0 where
  correct : is_correct (setting_of s) v ≡ true
  joined : are_joined s c.0 v.0 ≡ true
  signer : ((key == 0) || is_node (setting_of s) (record { 0 = key })) ≡ true
  may : has_documents s ≡ true
  some : 1 ≤ version
  low : version < 2 ^ 32
  left : key ≡ 0 → version ≤ total (param_of s.height)
  has : has_weights (published es) weights ≡ true

document_in : (s : Scenario) (es : List Event) (c v : NodeId) (key version : ℕ) (weights : Option (List ℕ))
    → Lined s es (events.CraftDocument c v key version weights) → IsDocumentLine s es c v key version weights
document_in s es c v key version weights is =
    let to = is.values.2 in
    let by = to.3 in
    let number = by.2 in
    let parts = both (has_documents s) (are_joined s c.0 v.0 && may_craft s (published es) key version weights) is.joined in
    let more = both (are_joined s c.0 v.0) (may_craft s (published es) key version weights) parts.1 in
    let last = both (has_index s.height key version) (has_weights (published es) weights) more.1 in
    record {
      correct = correct_is s v to.0 to.1 to.2;
      joined = more.0;
      signer = signer_is s key by.1;
      may = parts.0;
      some = number.0;
      low = omega (arith, number.1);
      left = index_left s key version last.0;
      has = last.1;
    }

fields_in : (s : Scenario) (es : List Event) (e : Event) → AreInRange s es → length es < MAX_EVENTS → Lined s es e → AreFields (setting_of s) es e
fields_in s es (events.Rel a b payload) are few is =
    let from = is.values in
    let to = from.3 in
    let bytes = to.2.0 in
    (correct_is s a from.0 from.1 from.2, other_is s a b to.0 to.1 is.joined, bytes.1, bytes.2)
fields_in s es (events.Prio a b prio expiry paths payload) are few is =
    let from = is.values in
    let to = from.3 in
    let level = to.2 in
    let until = level.2 in
    let over = until.2 in
    let bytes = over.2.0 in (
      correct_is s a from.0 from.1 from.2,
      other_is s a b to.0 to.1 is.joined,
      level.0,
      level.1,
      omega (arith, until.1),
      over.1,
      bytes.1,
      bytes.2,
    )
fields_in s es (events.Krel a b paths payload) are few is =
    let from = is.values in
    let to = from.3 in
    let over = to.2 in
    let bytes = over.2.0 in
    let parts = both (has_paths s) (differ a.0 b.0) is.joined in
    (parts.0, correct_is s a from.0 from.1 from.2, other_is s a b to.0 to.1 parts.1, over.0, over.1, bytes.1, bytes.2)
fields_in s es (events.KTake a b) are few is =
    let at = is.values in
    let from = at.3 in
    let parts = both (has_paths s) (differ a.0 b.0) is.joined in
    (parts.0, correct_is s a at.0 at.1 at.2, other_is s a b from.0 from.1 parts.1)
fields_in s es (events.Take a b) are few is =
    let at = is.values in
    let from = at.3 in
    (correct_is s a at.0 at.1 at.2, other_is s a b from.0 from.1 is.joined)
fields_in s es (events.TakePrio a) are few is = correct_is s a is.values.0 is.values.1 is.values.2
fields_in s es (events.Tick a now) are few is = let at = is.values in (correct_is s a at.0 at.1 at.2, omega (arith, at.3.1))
fields_in s es (events.Weight a b weight) are few is =
    let at = is.values in
    let to = at.3 in
    let number = to.2 in
    (correct_is s a at.0 at.1 at.2, is.joined, number.0, number.1)
fields_in s es (events.Poll a b) are few is = let at = is.values in (correct_is s a at.0 at.1 at.2, is.joined)
fields_in s es (events.Pass a b number) are few is =
    let from = is.values in
    let to = from.3 in
    let there = made es a b number is.joined in
    (correct_is s a from.0 from.1 from.2, correct_is s b to.0 to.1 to.2, polled_joins s es are a b (omega (arith, there.0, there.1)), there)
fields_in s es (events.Flip a b number back bit) are few is =
    let from = is.values in
    let to = from.3 in
    let there = made es a b number is.joined in
    let far = to.3.2 in
    let changed = far.2 in (
      correct_is s a from.0 from.1 from.2,
      correct_is s b to.0 to.1 to.2,
      polled_joins s es are a b (omega (arith, there.0, there.1)),
      there,
      far.0,
      far.1,
      changed.1,
    )
fields_in s es (events.Inject a b bytes) are few is =
    let to = is.values.2 in
    let came = to.3.0 in
    (correct_is s b to.0 to.1 to.2, is.joined, came.1, came.2)
fields_in s es (events.CraftStatus c v a b base have) are few is =
    let to = is.values.2 in
    let src = to.3 in
    let dst = src.2 in
    let low = dst.2 in
    let high = low.2 in
    let joined = both (are_joined s c.0 v.0) (differ a.0 b.0) is.joined in (
      correct_is s v to.0 to.1 to.2,
      joined.0,
      node_is s a src.0 src.1,
      other_is s a b dst.0 dst.1 joined.1,
      omega (arith, low.1),
      omega (arith, high.1),
    )
fields_in s es (events.Craft c v key object) are few is = crafted_in s es c v key object is
fields_in s es (events.Publish u None) are few is =
    let at = is.values in
    let parts = both (has_documents s) (may_publish s (published es) None) is.joined in
    (correct_is s u at.0 at.1 at.2, parts.0, parts.1)
fields_in s es (events.Publish u (Some weights)) are few is =
    let at = is.values in
    let list = at.3.0 in
    let parts = both (has_documents s) (may_publish s (published es) (Some weights)) is.joined in
    (correct_is s u at.0 at.1 at.2, parts.0, publish_in s es weights list.0 list.2 parts.1)
fields_in s es (events.CraftDocument c v key version None) are few is =
    let h = document_in s es c v key version None is in
    (h.correct, h.joined, h.signer, h.may, h.some, h.low, h.left, h.has)
fields_in s es (events.CraftDocument c v key version (Some weights)) are few is =
    let list = is.values.2.3.2.2.0 in
    let h = document_in s es c v key version (Some weights) is in
    (h.correct, h.joined, h.signer, h.may, h.some, h.low, h.left, (list.0, list.2))
fields_in s es (events.Start u) are few is = let at = is.values in (correct_is s u at.0 at.1 at.2, few)
fields_in s es (events.Stop u) are few is = correct_is s u is.values.0 is.values.1 is.values.2

pub in_range : (s : Scenario) (es : List Event) (e : Event) → AreInRange s es → length es < MAX_EVENTS → Lined s es e → InRange (setting_of s) es e
in_range s es e are few is = record { fields = fields_in s es e are few is; may = is.may }

-- ---- one event of many

pub record Ends (X : Type 0) (xs : List X) : Type 0 where
  pub front : List X
  pub last : X
  pub is : xs ≡ front ++ last ∷ []

-- a list is empty, or has a last element
ends : {X : Type 0} (xs : List X) → (xs ≡ []) ⊎ Ends X xs
ends [] = inl refl
ends {X = X} (x ∷ xs) = elim (ends xs) [
  | inl none ↦ inr (record { front = []; last = x; is = ap (λ (ys : List X). x ∷ ys) none })
  | inr some ↦ inr (record { front = x ∷ some.front; last = some.last; is = ap (λ (ys : List X). x ∷ ys) some.is })
]

part_in_range : (s : Scenario) (all es rest : List Event) (e : Event) → AreInRange s all → all ≡ es ++ e ∷ rest → AreInRange s es × Lined s es e
part_in_range s all es rest e None_yet same =
    absurd (let long : length {A = Event} [] ≡ length (es ++ e ∷ rest) = ap (λ (xs : List Event). length xs) same in
    omega (arith, long, length-append es (e ∷ rest)))
part_in_range s all es rest e (One_more {before = before} last are is) same = elim (ends rest) [
  | inl none ↦
      let parts = same_from_push before es last e (same ∙ ap (λ (xs : List Event). es ++ e ∷ xs) none) in
      (subst (AreInRange s) parts.0 are, subst (λ (xs : List Event). Lined s xs e) parts.0 (subst (Lined s before) parts.1 is))
  | inr some ↦
      let again : before ++ last ∷ [] ≡ (es ++ e ∷ some.front) ++ some.last ∷ [] =
      same ∙ ap (λ (xs : List Event). es ++ e ∷ xs) some.is ∙ sym (append_assoc es (e ∷ some.front) (some.last ∷ [])) in
      let parts = same_from_push before (es ++ e ∷ some.front) last some.last again in
      part_in_range s before es some.front e are parts.0
]

pub scheduled_events_are_in_range : ScheduledEventsAreInRange
scheduled_events_are_in_range s all es rest e good same =
    let part = part_in_range s all es rest e good.events same in
    let whole : length all ≡ length (es ++ e ∷ rest) = ap (λ (xs : List Event). length xs) same in
    let most = good.count in
    in_range s es e part.0 (omega (arith, whole, length-append es (e ∷ rest), most)) part.1

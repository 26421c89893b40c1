-- What the administrator hands out, and the documents that are crafted, are those that the rules of runs say.
use Rattle.std.proofs.Common.{◌≡◌, ◌+◌, ◌-◌, ◌<◌, ◌≤◌, ◌^◌, ◌==◌, ◌∙◌, ℕ, Bool, true, false, not, List, [], ◌∷◌, ◌++◌, length, Option, None, Some, refl, sym}
use Rattle.std.proofs.Common.{ap, subst, arith}
use Rattle.std.specs.Prelude.{IfSome, fold, is_some, unwrap_or}
use Rattle.std.specs.List.{All}
use Rattle.std.proofs.lemmas.List.{length-append}
use Rattle.std.proofs.lemmas.List.Elements.{All-head, All-tail}
use Rattle.std.proofs.lemmas.Option.{same_Some}
use Rattle.laws_runs.proofs.Signed.{signs}
use Rattle.laws_runs.specs.Versions.{ListsStand}
use Rattle.laws_runs_format.proofs.Documents.{rooms, signed_long, version_fits}
use Rattle.laws_runs_format.proofs.ReadBack.{format_carries}
use Rattle.laws_runs_format.specs.Arts.{arts_of}
use Rattle.sp_base.specs.declared.format.TheConstants.{FORMAT_1}
use Rattle.sp_base.specs.declared.id.NodeId.{NodeId}
use Rattle.sp_frame.specs.declared.writing.TheConstants.{MAX_DOCUMENT_BYTES}
use Rattle.sp_hss.specs.KeyTree.{signature, signature_len, total}
use Rattle.sp_journal.specs.declared.entry.Entry.{Entry}
use Rattle.sp_rules.specs.Topologies.{weights_in}
use Rattle.sp_runs.specs.Forgery.{lists_in, with_published}
use Rattle.sp_runs.specs.Inputs.{handed_out}
use Rattle.sp_runs.specs.Runs.{AreFields, AreWeights, MayCraft, MayPublish}
use Rattle.sp_runs.specs.Scenarios.{admin_seed, document_of, setting_of, unsigned_of}
use Rattle.sp_runs.specs.Settings.{may_change}
use Rattle.sp_runs.specs.Worlds.{World}
use Rattle.sp_schedule_events.specs.Documents.{list_in, none_published, published, with_list}
use Rattle.sp_schedule_events.specs.declared.event.Event.{Event}
use Rattle.sp_schedule_events.specs.declared.event.Event.TheVariants as events
use Rattle.sp_schedule_events.specs.declared.published.Published.{Published}
use Rattle.sp_schedule_events.specs.declared.scenario.Scenario.{Scenario}
use Rattle.sp_sign.specs.Heights.{param_of}
use Rattle.sp_topology.specs.declared.topology.LmsHeight.{LmsHeight}
use Rattle.sp_topology.specs.declared.topology.LmsHeight.TheVariants.{Five, Ten}
use Rattle.sp_world.proofs.Standing.{fits}
use Rattle.sp_world.specs.Documents.{CanCraftDocument, CanHandOut, CanSign, HasLast, IsHanded}
use Rattle.sp_world.specs.Stands.{ComesToOne, Stands}

-- ---- what was published, by the lists

-- the version counts them
version_is : (es : List Event) (was : Published) → (fold (λ (p : Published) e. with_list p (list_in e)) was es).version ≡ was.version + length (lists_in es)
version_is [] was = omega arith
version_is (e ∷ es) was = go (list_in e) (version_is es)
  where
    go : (o : Option (List ℕ))
        → ((p : Published) → (fold (λ (q : Published) e. with_list q (list_in e)) p es).version ≡ p.version + length (lists_in es))
        → (fold (λ (p : Published) e. with_list p (list_in e)) (with_list was o) es).version ≡ was.version + length (with_published o (lists_in es))
    go None rest = rest was
    go (Some weights) rest = let is = rest (record { version = was.version + 1; weights = Some weights }) in omega (arith, is)

-- the weights are those of one of them
weights_are : (P : List ℕ → Type 0) (es : List Event) (was : Published) → IfSome was.weights P → All P (lists_in es)
    → IfSome (fold (λ (p : Published) e. with_list p (list_in e)) was es).weights P
weights_are P [] was last all = last
weights_are P (e ∷ es) was last all = go (list_in e) all (weights_are P es)
  where
    go : (o : Option (List ℕ)) → All P (with_published o (lists_in es))
        → ((p : Published) → IfSome p.weights P → All P (lists_in es) → IfSome (fold (λ (q : Published) e. with_list q (list_in e)) p es).weights P)
        → IfSome (fold (λ (p : Published) e. with_list p (list_in e)) (with_list was o) es).weights P
    go None all rest = rest was last all
    go (Some weights) all rest =
        rest (record { version = was.version + 1; weights = Some weights }) (All-head P weights (lists_in es) all) (All-tail P weights (lists_in es) all)

-- ---- at an event

most_versions : (h : LmsHeight) → total (param_of h) + 1 < 2 ^ 32
most_versions Five = omega arith
most_versions Ten = omega arith

later_format : (t : Bool) → not t ≡ true → t ≡ false
later_format false e = refl
later_format true e = absurd (let f : false ≡ true = e in cc)

module _ (s : Scenario) (es : List Event) (js : List Entry) (w : World) (e : Event) (st : Stands s es js w e) where
  lists : ListsStand (setting_of s) (lists_in es)
  lists = (signs (arts_of (setting_of s)) (setting_of s) es js w (fits s es js w e st) (format_carries s.format) st.clean).lists

  pub published_there : w.published ≡ published es
  published_there = (signs (arts_of (setting_of s)) (setting_of s) es js w (fits s es js w e st) (format_carries s.format) st.clean).published

  pub few_lists : ((published es).version ≤ (setting_of s).admin_total) × (1 ≤ (published es).version)
  few_lists =
      let count = version_is es none_published in
      let few = lists.few in
      (omega (arith, count, few), omega (arith, count))

  pub last_are : IfSome (published es).weights (AreWeights (setting_of s))
  last_are = weights_are (AreWeights (setting_of s)) es none_published tt lists.weights

  pub few_versions : w.published.version + 1 < 2 ^ 32
  few_versions =
      let same = ap (λ (p : Published). p.version) published_there in
      let few = few_lists.0 in
      let top = most_versions s.height in
      omega (arith, same, few, top)

  may_sign : (version : ℕ) (weights : List ℕ) → may_change (setting_of s) ≡ true → AreWeights (setting_of s) weights → 1 ≤ version
      → version ≤ (setting_of s).admin_total → CanSign s version weights
  may_sign version weights may are some most = record {
    topology = version_fits s st.header version weights may are.1 (let top = most_versions s.height in omega (arith, most, top));
    some = some;
    most = most;
  }

  -- where there is a last list, it can be signed
  has_last : (weights : Option (List ℕ)) → weights ≡ (published es).weights → may_change (setting_of s) ≡ true → is_some weights ≡ true
      → HasLast s (published es)
  has_last None is may some = absurd (cc)
  has_last (Some weights) is may some = record {
    weights = weights;
    is = sym is;
    sign = may_sign (published es).version weights may (subst (λ (o : Option (List ℕ)). IfSome o (AreWeights (setting_of s))) (sym is) last_are) few_lists.1
        few_lists.0;
  }

  may_hand_out : (weights : Option (List ℕ)) → may_change (setting_of s) ≡ true → MayPublish (setting_of s) (published es) weights
      → HasLast s (with_list (published es) weights)
  may_hand_out None may some = has_last (published es).weights refl may some
  may_hand_out (Some weights) may range =
      let below = range.1 in
      record {
        weights = weights;
        is = refl;
        sign = may_sign ((published es).version + 1) weights may range.0 (omega arith) (omega (arith, below));
      }

  pub can_hand_out : CanHandOut s w.published e
  can_hand_out = subst (λ (last : Published). CanHandOut s last e) (sym published_there) (go e st.range.fields)
    where
      few : (published es).version + 1 < 2 ^ 32
      few = subst (λ (last : Published). last.version + 1 < 2 ^ 32) published_there few_versions

      go : (f : Event) → AreFields (setting_of s) es f → CanHandOut s (published es) f
      go (events.Publish u weights) range = (few, may_hand_out weights range.1 range.2)
      go (events.Rel a b payload) range = tt
      go (events.Krel a b paths payload) range = tt
      go (events.Prio a b prio expiry paths payload) range = tt
      go (events.Take a b) range = tt
      go (events.KTake a b) range = tt
      go (events.TakePrio a) range = tt
      go (events.Tick a now) range = tt
      go (events.Weight a b weight) range = tt
      go (events.Poll a b) range = tt
      go (events.Pass a b number) range = tt
      go (events.Flip a b number back bit) range = tt
      go (events.Inject a b bytes) range = tt
      go (events.Craft c v key object) range = tt
      go (events.CraftStatus c v a b base have) range = tt
      go (events.CraftDocument c v key version weights) range = tt
      go (events.Start a) range = tt
      go (events.Stop a) range = tt

  -- a frame has room for what is signed with whatever key
  unsigned_short : (version : ℕ) (weights : List ℕ) → may_change (setting_of s) ≡ true
      → length (unsigned_of s version weights) + signature_len (param_of s.height) ≤ MAX_DOCUMENT_BYTES
  unsigned_short version weights may =
      let later = later_format (s.format == FORMAT_1) may in
      let bytes = unsigned_of s version weights in
      let signed = signature (param_of s.height) (admin_seed s.seed) (version - 1) bytes in
      let is : document_of s version weights ≡ bytes ++ signed = rw later refl in
      let long = signed_long s st.header (version - 1) bytes in
      let room = (rooms s st.header version weights).1 in
      omega (arith, ap length is, room, long, length-append bytes signed)

  crafted_by : (key version : ℕ) (weights : Option (List ℕ)) (list : List ℕ)
      → ((own : List ℕ) → unwrap_or weights (unwrap_or (published es).weights own) ≡ list)
      → may_change (setting_of s) ≡ true → AreWeights (setting_of s) list → 1 ≤ version → version < 2 ^ 32
      → (key ≡ 0 → version ≤ (setting_of s).admin_total) → CanCraftDocument s (published es) key version weights
  crafted_by key version weights list is may are some low most = record {
    list = list;
    is = is;
    topology = version_fits s st.header version list may are.1 low;
    index = λ zero. may_sign version list may are some (most zero);
    signed = (rooms s st.header version list).1;
    unsigned = unsigned_short version list may;
  }

  by_weights : (key version : ℕ) (weights last : Option (List ℕ)) → last ≡ (published es).weights
      → may_change (setting_of s) ≡ true → MayCraft (setting_of s) (record { version = (published es).version; weights = last }) weights
      → 1 ≤ version → version < 2 ^ 32 → (key ≡ 0 → version ≤ (setting_of s).admin_total) → CanCraftDocument s (published es) key version weights
  by_weights key version (Some weights) last is may are some low most = crafted_by key version (Some weights) weights (λ own. refl) may are some low most
  by_weights key version None None is may are some low most = absurd (let wrong : false ≡ true = are in cc)
  by_weights key version None (Some weights) is may are some low most =
      crafted_by key version None weights (λ own. ap (λ (o : Option (List ℕ)). unwrap_or o own) (sym is)) may
      (subst (λ (o : Option (List ℕ)). IfSome o (AreWeights (setting_of s))) (sym is) last_are) some low most

-- ---- the event of a crafted document

pub document_may : (s : Scenario) (es : List Event) (js : List Entry) (w : World) (e : Event) (c v : NodeId) (key version : ℕ) (weights : Option (List ℕ))
    → ComesToOne s es js w e → e ≡ events.CraftDocument c v key version weights → CanCraftDocument s w.published key version weights
document_may s es js w e c v key version weights comes is =
    let st = comes.stands in
    let range = subst (λ (f : Event). AreFields (setting_of s) es f) is st.range.fields in
    subst (λ (last : Published). CanCraftDocument s last key version weights) (sym (published_there s es js w e st))
    (by_weights s es js w e st key version weights (published es).weights refl range.3 range.7 range.4 range.5 range.6)

-- ---- what is handed out

pub last_there : (s : Scenario) (was last : Published) (e : Event) (u : NodeId) (list : Option (List ℕ)) → CanHandOut s was e → e ≡ events.Publish u list
    → last ≡ with_list was (list_in e) → last.weights ≡ None → ⊥
last_there s was last e u list can is made none =
    let has = (subst (CanHandOut s was) is can).1 in
    let here : last ≡ with_list was list = made ∙ ap (λ (f : Event). with_list was (list_in f)) is in
    let wrong : Some has.weights ≡ None = sym has.is ∙ ap (λ (p : Published). p.weights) (sym here) ∙ none in
    cc

pub last_signs : (s : Scenario) (was last : Published) (e : Event) (u : NodeId) (list : Option (List ℕ)) (weights : List ℕ) → CanHandOut s was e
    → e ≡ events.Publish u list → last ≡ with_list was (list_in e) → last.weights ≡ Some weights → CanSign s last.version weights
last_signs s was last e u list weights can is made some =
    let has = (subst (CanHandOut s was) is can).1 in
    let here : last ≡ with_list was list = made ∙ ap (λ (f : Event). with_list was (list_in f)) is in
    let same : has.weights ≡ weights = same_Some has.weights weights (sym has.is ∙ ap (λ (p : Published). p.weights) (sym here) ∙ some) in
    rw (here, ← same) has.sign

pub is_handed : (s : Scenario) (was last : Published) (e : Event) (u : NodeId) (list : Option (List ℕ)) (weights document : List ℕ) → e ≡ events.Publish u list
    → last ≡ with_list was (list_in e) → last.weights ≡ Some weights → document ≡ document_of s last.version weights
    → IsHanded (setting_of s) was e document
is_handed s was last e u list weights document is made some signed =
    let here : last ≡ with_list was list = made ∙ ap (λ (f : Event). with_list was (list_in f)) is in
    subst (λ (f : Event). IsHanded (setting_of s) was f document) (sym is)
    (signed
    ∙ ap (λ (o : Option (List ℕ)). document_of s last.version (unwrap_or o (weights_in s.graph.edges))) (sym some)
    ∙ ap (handed_out (setting_of s)) here)

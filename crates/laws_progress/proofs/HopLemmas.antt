-- What holds of the frames and views between two nodes in every state, by the facts of single steps.
use Rattle.std.proofs.Common.{◌≡◌, ℕ, ◌+◌, ◌<◌, ◌≤◌, ◌⊎◌, true, List, [], ◌∷◌, inl, inr, arith}
use Rattle.sp_base.specs.declared.id.NodeId.{NodeId}
use Rattle.std.proofs.lemmas.Bool.{cases_Bool, cases_lt}
use Rattle.sp_schedule_events.specs.declared.event.Event.{Event}
use Rattle.sp_runs.specs.Runs.{is_poll}
use Rattle.laws_progress.proofs.Facts.{Goes, Stays, Steps, Sight}
use Rattle.laws_progress.proofs.Hops.{HopHolds, IsBehind, IsFresh, IsMade, Lasting, SameView, Told, Wires}

-- ---- frames after a step

behind_later : (W : Type 0) (Next : W → Event → W → Type 0) (Hop : NodeId → NodeId → Type 0) (at : Sight W) (on : Wires W) (bound : ℕ)
    → Lasting W Next Hop at on bound
    → (w x : W) (e : Event) (u v : NodeId) (f : Told) → Next w e x → IsBehind W at bound w u v f → IsBehind W at bound x u v f
behind_later W Next Hop at on bound lasting w x e u v f step h =
    let bu = lasting.base_rises w x e u step in
    let hu = lasting.have_rises w x e u step in
    let bv = lasting.base_rises w x e v step in
    let hv = lasting.have_rises w x e v step in
    record {
      base = let z = h.base in omega (arith, z, bu);
      have = let z = h.have in omega (arith, z, hu);
      window = h.window;
      no_ack = λ n. let z = h.no_ack n in omega (arith, z, bv);
      next_there = h.next_there;
      next_near = let z = h.next_near in omega (arith, z, hv);
    }

-- a frame when it is made
behind_made : (W : Type 0) (Next : W → Event → W → Type 0) (Hop : NodeId → NodeId → Type 0) (at : Sight W) (on : Wires W) (bound : ℕ)
    → Lasting W Next Hop at on bound
    → (w : W) (u v : NodeId) (f : Told) → at.view_base w u v ≤ at.base w v → at.view_have w u v ≤ at.have w v → IsMade W at w u v f → f.mine ≡ true
    → IsBehind W at bound w u v f
behind_made W Next Hop at on bound lasting w u v f vb vh made mine =
    let b = made.base mine in
    let h = made.have mine in
    record {
      base = omega (arith, b);
      have = omega (arith, h);
      window = let z = lasting.window w u in omega (arith, z, b, h);
      no_ack = λ n. let z = made.no_ack mine n in omega (arith, z, b, vb);
      next_there = let z = made.next_there mine in omega (arith, z, h);
      next_near = let z = made.next_near mine in omega (arith, z, b, vh);
    }

-- which frame a number names after a step: one that was there, or the one that was made
record Which (W : Type 0) (at : Sight W) (on : Wires W) (w x : W) (u v : NodeId) (k : ℕ) : Type 0 where
  is : ((k ≤ at.polled w u v) × (on.told x u v k ≡ on.told w u v k)) ⊎ ((k ≡ at.polled w u v + 1) × IsMade W at w u v (on.told x u v k))

which : (W : Type 0) (Next : W → Event → W → Type 0) (Hop : NodeId → NodeId → Type 0) (at : Sight W) (on : Wires W) (bound : ℕ) → Lasting W Next Hop at on bound
    → (w x : W) (e : Event) (u v : NodeId) (k : ℕ) → Hop u v → Next w e x → k ≤ at.polled x u v → Which W at on w x u v k
which W Next Hop at on bound lasting w x e u v k hop step le = elim (cases_lt (at.polled w u v) k) [
  | inr old ↦ record { is = inl (old, lasting.frames_stay w x e u v k hop step old) }
  | inl new ↦ elim (cases_Bool (is_poll u v e)) [
    | inl t ↦
        let n = lasting.one_polled w x e u v hop step t in
        let is : k ≡ at.polled x u v = omega (arith, n, new, le) in
        record { is = inr (omega (arith, n, new, le), rw is (lasting.makes w x e u v hop step t)) }
    | inr t ↦ absurd (let n = lasting.none_polled w x e u v hop step t in omega (arith, n, new, le))
  ]
]

polled_more : (W : Type 0) (Next : W → Event → W → Type 0) (Hop : NodeId → NodeId → Type 0) (at : Sight W) (on : Wires W) (bound : ℕ)
    → Lasting W Next Hop at on bound
    → (w x : W) (e : Event) (u v : NodeId) → Hop u v → Next w e x → at.polled w u v ≤ at.polled x u v
polled_more W Next Hop at on bound lasting w x e u v hop step = elim (cases_Bool (is_poll u v e)) [
  | inl t ↦ let n = lasting.one_polled w x e u v hop step t in omega (arith, n)
  | inr t ↦ let n = lasting.none_polled w x e u v hop step t in omega (arith, n)
]

-- what is known of one direction after a step, but for what was heard
record Grown (W : Type 0) (at : Sight W) (on : Wires W) (bound : ℕ) (w x : W) (u v : NodeId) : Type 0 where
  frames : (k : ℕ) → 0 < k → k ≤ at.polled x u v → (on.told x u v k).mine ≡ true → IsBehind W at bound x u v (on.told x u v k)
  order : (j k : ℕ) → 0 < j → j ≤ k → k ≤ at.polled x u v → (on.told x u v j).mine ≡ true → (on.told x u v k).mine ≡ true
      → ((on.told x u v j).base ≤ (on.told x u v k).base) × ((on.told x u v j).have ≤ (on.told x u v k).have)
  -- what is behind the old state is behind a frame that was made since
  new : (k base have : ℕ) → at.polled w u v < k → k ≤ at.polled x u v → (on.told x u v k).mine ≡ true → base ≤ at.base w u → have ≤ at.have w u
      → (base ≤ (on.told x u v k).base) × (have ≤ (on.told x u v k).have)

grown : (W : Type 0) (Next : W → Event → W → Type 0) (Hop : NodeId → NodeId → Type 0) (at : Sight W) (on : Wires W) (bound : ℕ) → Lasting W Next Hop at on bound
    → (w x : W) (e : Event) (u v : NodeId) → Hop u v → Next w e x → HopHolds W at on bound w u v → HopHolds W at on bound w v u → Grown W at on bound w x u v
grown W Next Hop at on bound lasting w x e u v hop step h back =
    let new : (k base have : ℕ) → at.polled w u v < k → k ≤ at.polled x u v → (on.told x u v k).mine ≡ true → base ≤ at.base w u → have ≤ at.have w u
    → (base ≤ (on.told x u v k).base) × (have ≤ (on.told x u v k).have) = λ k base have above le mine lb lh.
    elim ((which W Next Hop at on bound lasting w x e u v k hop step le).is) [
      | inl old ↦ absurd (let z = old.0 in omega (arith, z, above))
      | inr made ↦ let b = made.1.base mine in let c = made.1.have mine in (omega (arith, b, lb), omega (arith, c, lh))
    ] in
    record {
      frames = λ k pos le mine. elim ((which W Next Hop at on bound lasting w x e u v k hop step le).is) [
        | inl old ↦ rw old.1 (behind_later W Next Hop at on bound lasting w x e u v (on.told w u v k) step (h.frames k pos old.0 (rw old.1 at mine)))
        | inr made ↦ behind_later W Next Hop at on bound lasting w x e u v (on.told x u v k) step
            (behind_made W Next Hop at on bound lasting w u v (on.told x u v k) back.view_base back.view_have made.1 mine)
      ];
      order = λ j k pos jk le mine_j mine_k. elim ((which W Next Hop at on bound lasting w x e u v k hop step le).is) [
        | inl old ↦
            let j_is = lasting.frames_stay w x e u v j hop step (let z = old.0 in omega (arith, z, jk)) in
            rw (j_is, old.1) (h.order j k pos jk old.0 (rw j_is at mine_j) (rw old.1 at mine_k))
        | inr made ↦ elim (cases_lt j k) [
          | inl lt ↦
              let low : j ≤ at.polled w u v = let z = made.0 in omega (arith, z, lt) in
              let j_is = lasting.frames_stay w x e u v j hop step low in
              let f = h.frames j pos low (rw j_is at mine_j) in
              let fb = f.base in
              let fh = f.have in
              rw j_is (new k _ _ (let z = made.0 in omega (arith, z)) le mine_k fb fh)
          | inr ge ↦ let same : j ≡ k = omega (arith, ge, jk) in rw same (omega arith, omega arith)
        ]
      ];
      new = new;
    }

pub hop_step : (W : Type 0) (Next : W → Event → W → Type 0) (Hop : NodeId → NodeId → Type 0) (at : Sight W) (on : Wires W) (bound : ℕ)
    → Lasting W Next Hop at on bound
    → (w x : W) (e : Event) (u v : NodeId) → Hop u v → Next w e x → HopHolds W at on bound w u v → HopHolds W at on bound w v u → HopHolds W at on bound x u v
hop_step W Next Hop at on bound lasting w x e u v hop step h back =
    let g = grown W Next Hop at on bound lasting w x e u v hop step h back in
    let more = polled_more W Next Hop at on bound lasting w x e u v hop step in
    let bu = lasting.base_rises w x e u step in
    let hu = lasting.have_rises w x e u step in
    let vb = h.view_base in
    let vh = h.view_have in
    let low = h.seen in
    -- the views as they were, while no less was heard
    let same : SameView W at w x u v → on.seen w v u ≤ on.seen x v u → on.seen x v u ≤ at.polled x u v → HopHolds W at on bound x u v = λ z up top.
    let zb = z.base in
    let zh = z.have in
    record {
      seen = top;
      frames = g.frames;
      order = g.order;
      view_base = omega (arith, zb, vb, bu);
      view_have = omega (arith, zh, vh, hu);
      ahead = λ k above le mine. elim (cases_lt (at.polled w u v) k) [
        | inl new ↦ let n = g.new k _ _ new le mine vb vh in let a = n.0 in let b = n.1 in (omega (arith, zb, a), omega (arith, zh, b))
        | inr old ↦
            let is = lasting.frames_stay w x e u v k hop step old in
            let n = h.ahead k (omega (arith, up, above)) old (rw is at mine) in
            let a = n.0 in let b = n.1 in rw is (omega (arith, zb, a), omega (arith, zh, b))
      ];
    } in
    elim (lasting.hears w x e u v hop step) [
      | inl deaf ↦ let z = deaf.seen in same deaf.views (omega (arith, z)) (omega (arith, z, low, more))
      | inr hearing ↦
          let k = hearing.0 in
          let it = hearing.1 in
          let z = it.seen in
          let after = it.after in
          let made = it.made in
          elim it.views [
            | inl stay ↦ same stay (omega (arith, z, after)) (omega (arith, z, made, more))
            | inr got ↦
                let f = h.frames k (omega (arith, after)) made got.0 in
                let fb = f.base in
                let fh = f.have in
                let gb = got.1 in
                let gh = got.2 in
                record {
                  seen = omega (arith, z, made, more);
                  frames = g.frames;
                  order = g.order;
                  view_base = omega (arith, gb, fb, bu);
                  view_have = omega (arith, gh, fh, hu);
                  ahead = λ j above le mine. elim (cases_lt (at.polled w u v) j) [
                    | inl new ↦ let n = g.new j _ _ new le mine fb fh in let a = n.0 in let b = n.1 in (omega (arith, gb, a), omega (arith, gh, b))
                    | inr old ↦
                        let is = lasting.frames_stay w x e u v j hop step old in
                        let n = h.order k j (omega (arith, after)) (omega (arith, z, above)) old got.0 (rw is at mine) in
                        let a = n.0 in let b = n.1 in rw is (omega (arith, gb, a), omega (arith, gh, b))
                  ];
                }
          ]
    ]

-- ---- every state

abbrev pub HopsHold : (W : Type 0) → Sight W → Wires W → (NodeId → NodeId → Type 0) → ℕ → W → Type 0
HopsHold W at on Hop bound w = (u v : NodeId) → Hop u v → HopHolds W at on bound w u v

hops_on : (W : Type 0) (Next : W → Event → W → Type 0) (Hop : NodeId → NodeId → Type 0) (at : Sight W) (on : Wires W) (bound : ℕ)
    → Lasting W Next Hop at on bound
    → (es : List Event) (w y : W) → Goes W Next w es y → HopsHold W at on Hop bound w → HopsHold W at on Hop bound y
hops_on W Next Hop at on bound lasting [] w y Stays h = h
hops_on W Next Hop at on bound lasting (e ∷ es) w y (Steps {x = x} step g) h =
    hops_on W Next Hop at on bound lasting es x y g
    (λ u v hop. hop_step W Next Hop at on bound lasting w x e u v hop step (h u v hop) (h v u (lasting.both_ways u v hop)))

fresh_holds : (W : Type 0) (at : Sight W) (on : Wires W) (bound : ℕ) (w : W) (u v : NodeId) → IsFresh W at on w u v → HopHolds W at on bound w u v
fresh_holds W at on bound w u v f =
    let p = f.polled in
    let vb = f.view_base in
    let vh = f.view_have in
    record {
      seen = let z = f.seen in omega (arith, z, p);
      frames = λ k pos le mine. absurd (omega (arith, p, pos, le));
      order = λ j k pos jk le a b. absurd (omega (arith, p, pos, jk, le));
      view_base = omega (arith, vb);
      view_have = omega (arith, vh);
      ahead = λ k above le mine. absurd (omega (arith, p, above, le));
    }

pub hops_hold : (W : Type 0) (Next : W → Event → W → Type 0) (Hop : NodeId → NodeId → Type 0) (at : Sight W) (on : Wires W) (bound : ℕ)
    → Lasting W Next Hop at on bound
    → (w : W) → HopsHold W at on Hop bound w
hops_hold W Next Hop at on bound lasting w =
    let b = lasting.begins w in
    hops_on W Next Hop at on bound lasting b.1 b.0 w b.2 (λ u v hop. fresh_holds W at on bound b.0 u v (b.3 u v hop))

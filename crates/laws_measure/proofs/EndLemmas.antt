-- What the two ends of a link keep, whatever happens between them.
use Rattle.std.proofs.Common.{◌≡◌, ◌≤◌, ℕ, ◌+◌, ◌==◌, Bool, true, false, cond, List, [], ◌∷◌, ◌++◌, All, Option, Some, None, refl, sym, ap, subst, ◌∙◌, arith}
use Rattle.std.proofs.Common.{nat_le}
use Rattle.std.specs.Prelude.{is_some, slice_get}
use Rattle.std.specs.List.{range_with_len}
use Rattle.std.proofs.lemmas.Bool.{eqb-true}
use Rattle.std.proofs.lemmas.List.{append-nil, map-id}
use Rattle.std.proofs.lemmas.List.Elements.{All-get_or, All-nil, All-push, All-weaker}
use Rattle.std.proofs.lemmas.List.FromFn.{map-range_with_len_more}
use Rattle.std.proofs.lemmas.Option.{get_or_from_slice_get, slice_get_within}
use Rattle.sp_base.specs.declared.id.NodeId.{NodeId}
use Rattle.sp_frame.specs.declared.probe.Probe.{Probe}
use Rattle.sp_measure.proofs.MeterLemmas.{proof_grows}
use Rattle.sp_measure.specs.Meters.{MeterState, after_echo, after_probe, due_weight, echo_taken, judge_echo, judge_probe, one_more_frame, opened, probe_of}
use Rattle.sp_measure.specs.Meters.{probe_taken}
use Rattle.sp_measure.specs.Proofs.{Hashes, Sender, nonce, nonces, proof_of, with_nonce}
use Rattle.sp_measure.specs.declared.answers.EchoAnswer.{EchoAnswer}
use Rattle.sp_measure.specs.declared.answers.EchoAnswer.TheVariants as echoes
use Rattle.sp_measure.specs.declared.answers.ProbeAnswer.{ProbeAnswer}
use Rattle.sp_measure.specs.declared.answers.ProbeAnswer.TheVariants as probes
use Rattle.sp_measure.specs.declared.opening.Opening.{Opening}
use Rattle.laws_measure.specs.Ends.{End, Ends, Move, Makes, Meets, Ticks, after, at_start, made_at, met, met_where, moved, new_end, new_number, published_where}
use Rattle.laws_measure.specs.Ends.{sender_at, ticked}

-- ---- a probe part as its maker made it

-- its probe is one of the maker's, and its echo has the proof of the other's probes up to it
pub record Sound (h : Hashes) (mine theirs : Sender) (top taken : ℕ) (p : Probe) : Type 0 where
  pub number : p.number ≤ top
  pub nonce : p.nonce ≡ Rattle.sp_measure.specs.Proofs.nonce h mine p.number
  pub echo : p.echo ≤ taken
  pub proof : p.proof ≡ proof_of h (nonces h theirs p.echo)

pub sound_more : (h : Hashes) (mine theirs : Sender) (a b c d : ℕ) (p : Probe) → a ≤ c → b ≤ d → Sound h mine theirs a b p → Sound h mine theirs c d p
sound_more h mine theirs a b c d p one two s =
    record { number = omega (arith, one, s.number); nonce = s.nonce; echo = omega (arith, two, s.echo); proof = s.proof }

-- ---- one end

-- the other end opened its probes up to top
pub record EndIs (h : Hashes) (mine theirs : Sender) (top : ℕ) (e : End) : Type 0 where
  pub sender : e.meter.sender ≡ mine
  pub low : e.meter.taken ≤ top
  pub proof : e.meter.proof ≡ proof_of h (nonces h theirs e.meter.taken)
  pub made : All (Sound h mine theirs e.meter.number e.meter.taken) e.made
  pub taken : e.taken ≡ range_with_len 1 e.meter.taken

pub end_is_new : (h : Hashes) (mine theirs : Sender) → EndIs h mine theirs 0 (new_end mine)
end_is_new h mine theirs = record {
  sender = refl;
  low = omega arith;
  proof = refl;
  made = All-nil (Sound h mine theirs 0 0);
  taken = refl;
}

pub end_grown : (h : Hashes) (mine theirs : Sender) (top more : ℕ) (e : End) → top ≤ more → EndIs h mine theirs top e → EndIs h mine theirs more e
end_grown h mine theirs top more e grown is =
    record { sender = is.sender; low = omega (arith, is.low, grown); proof = is.proof; made = is.made; taken = is.taken }

-- ---- a frame is made

record Opened (m n : MeterState) : Type 0 where
  sender : n.sender ≡ m.sender
  number : m.number ≤ n.number
  taken : n.taken ≡ m.taken
  proof : n.proof ≡ m.proof

opened_is : (m : MeterState) (now : ℕ) → Opened m (opened m now)
opened_is m now = go m.opening
  where
    go : (o : Option Opening) → Opened m (record m { number = cond (is_some o) m.number (m.number + 1); opening = Some (one_more_frame o now) })
    go None = record { sender = refl; number = omega arith; taken = refl; proof = refl }
    go (Some o) = record { sender = refl; number = omega arith; taken = refl; proof = refl }

pub makes_more : (h : Hashes) (now : ℕ) (e : End) → e.meter.number ≤ (made_at h now e).meter.number
makes_more h now e = (opened_is e.meter now).number

pub end_makes : (h : Hashes) (mine theirs : Sender) (top now : ℕ) (e : End) → EndIs h mine theirs top e → EndIs h mine theirs top (made_at h now e)
end_makes h mine theirs top now e is =
    let n = opened e.meter now in
    let o = opened_is e.meter now in
    let old : All (Sound h mine theirs n.number n.taken) e.made =
    All-weaker (Sound h mine theirs e.meter.number e.meter.taken) (Sound h mine theirs n.number n.taken)
    (λ p s. sound_more h mine theirs e.meter.number e.meter.taken n.number n.taken p o.number (omega (arith, o.taken)) s) e.made is.made in
    let new : Sound h mine theirs n.number n.taken (probe_of h n) = record {
      number = omega arith;
      nonce = ap (λ (s : Sender). nonce h s n.number) (o.sender ∙ is.sender);
      echo = omega arith;
      proof = o.proof ∙ is.proof ∙ ap (λ (k : ℕ). proof_of h (nonces h theirs k)) (sym o.taken);
    } in
    record {
      sender = o.sender ∙ is.sender;
      low = omega (arith, o.taken, is.low);
      proof = o.proof ∙ is.proof ∙ ap (λ (k : ℕ). proof_of h (nonces h theirs k)) (sym o.taken);
      made = All-push (Sound h mine theirs n.number n.taken) e.made (probe_of h n) old new;
      taken = is.taken ∙ ap (λ (k : ℕ). range_with_len 1 k) (sym o.taken);
    }

-- ---- a frame arrives

probe_passes : (t : Bool) (a b : ProbeAnswer) → (a ≡ probes.New → ⊥) → cond t a b ≡ probes.New → (t ≡ false) × (b ≡ probes.New)
probe_passes true a b other e = absurd (other e)
probe_passes false a b other e = (refl, e)

last_passes : (t : Bool) → cond t probes.New probes.Gap ≡ probes.New → t ≡ true
last_passes true e = refl
last_passes false e = absurd (cc)

-- a new probe is the next one
pub new_probe : (m : MeterState) (p : Probe) → judge_probe m p ≡ probes.New → p.number ≡ m.taken + 1
new_probe m p new =
    let one = probe_passes (p.number == 0) probes.Nothing _ (λ e. cc) new in
    let two = probe_passes (nat_le p.number m.taken) probes.Old _ (λ e. cc) one.1 in
    eqb-true p.number (m.taken + 1) (last_passes (p.number == m.taken + 1) two.1)

range_grows : (n : ℕ) → range_with_len 1 (n + 1) ≡ range_with_len 1 n ++ (n + 1) ∷ []
range_grows n = sym (map-id (range_with_len 1 (n + 1))) ∙ map-range_with_len_more (λ (k : ℕ). k) 1 n (n + 1) (omega arith)
    ∙ ap (λ (xs : List ℕ). xs ++ (n + 1) ∷ []) (map-id (range_with_len 1 n))

-- what the probe of a sound part leaves
record Probed (h : Hashes) (theirs : Sender) (top : ℕ) (m n : MeterState) (came : List ℕ) : Type 0 where
  sender : n.sender ≡ m.sender
  number : n.number ≡ m.number
  grown : m.taken ≤ n.taken
  low : n.taken ≤ top
  proof : n.proof ≡ proof_of h (nonces h theirs n.taken)
  taken : range_with_len 1 m.taken ++ came ≡ range_with_len 1 n.taken

nothing_taken : (h : Hashes) (theirs : Sender) (top : ℕ) (m : MeterState) → m.taken ≤ top → m.proof ≡ proof_of h (nonces h theirs m.taken)
    → Probed h theirs top m m []
nothing_taken h theirs top m low proof = record {
  sender = refl;
  number = refl;
  grown = omega arith;
  low = low;
  proof = proof;
  taken = append-nil (range_with_len 1 m.taken);
}

probed : (h : Hashes) (mine theirs : Sender) (top echoes : ℕ) (m : MeterState) (p : Probe) (a : ProbeAnswer) → (a ≡ probes.New → p.number ≡ m.taken + 1)
    → m.taken ≤ top → m.proof ≡ proof_of h (nonces h theirs m.taken) → Sound h theirs mine top echoes p
    → Probed h theirs top m (probe_taken h m p a) (new_number a p.number)
probed h mine theirs top echoes m p probes.New next low proof s =
    let is : p.number ≡ m.taken + 1 = next refl in
    let nonce_is : p.nonce ≡ nonce h theirs (m.taken + 1) = s.nonce ∙ ap (nonce h theirs) is in
    record {
      sender = refl;
      number = refl;
      grown = omega (arith, is);
      low = s.number;
      proof = ap (λ (x : List ℕ). with_nonce h x p.nonce) proof
          ∙ ap (λ (x : List ℕ). with_nonce h (proof_of h (nonces h theirs m.taken)) x) nonce_is
          ∙ sym (proof_grows h theirs m.taken)
          ∙ ap (λ (k : ℕ). proof_of h (nonces h theirs k)) (sym is);
      taken = ap (λ (k : ℕ). range_with_len 1 m.taken ++ k ∷ []) is ∙ sym (range_grows m.taken) ∙ ap (λ (k : ℕ). range_with_len 1 k) (sym is);
    }
probed h mine theirs top echoes m p probes.Nothing next low proof s = nothing_taken h theirs top m low proof
probed h mine theirs top echoes m p probes.Old next low proof s = nothing_taken h theirs top m low proof
probed h mine theirs top echoes m p probes.Gap next low proof s = nothing_taken h theirs top m low proof

-- the echo changes nothing of probes
record SameProbes (m n : MeterState) : Type 0 where
  sender : n.sender ≡ m.sender
  number : n.number ≡ m.number
  taken : n.taken ≡ m.taken
  proof : n.proof ≡ m.proof

echoed : (m : MeterState) (a : EchoAnswer) → SameProbes m (echo_taken m a)
echoed m (echoes.New n c) = record { sender = refl; number = refl; taken = refl; proof = refl }
echoed m echoes.Nothing = record { sender = refl; number = refl; taken = refl; proof = refl }
echoed m echoes.Old = record { sender = refl; number = refl; taken = refl; proof = refl }
echoed m echoes.Bad = record { sender = refl; number = refl; taken = refl; proof = refl }

pub end_meets : (h : Hashes) (mine theirs : Sender) (top echoes now : ℕ) (p : Probe) (e : End) → EndIs h mine theirs top e → Sound h theirs mine top echoes p
    → EndIs h mine theirs top (met h now p e) × ((met h now p e).meter.number ≡ e.meter.number)
end_meets h mine theirs top echoes now p e is s =
    let m = after_probe h e.meter p in
    let q = probed h mine theirs top echoes e.meter p (judge_probe e.meter p) (new_probe e.meter p) is.low is.proof s in
    let r = echoed m (judge_echo h m p now) in
    let n = after_echo h m p now in
    let number : n.number ≡ e.meter.number = r.number ∙ q.number in
    let taken : n.taken ≡ m.taken = r.taken in (
      record {
        sender = r.sender ∙ q.sender ∙ is.sender;
        low = omega (arith, taken, q.low);
        proof = r.proof ∙ q.proof ∙ ap (λ (k : ℕ). proof_of h (nonces h theirs k)) (sym taken);
        made = All-weaker (Sound h mine theirs e.meter.number e.meter.taken) (Sound h mine theirs n.number n.taken)
            (λ x t. sound_more h mine theirs e.meter.number e.meter.taken n.number n.taken x (omega (arith, number)) (omega (arith, taken, q.grown)) t)
            e.made is.made;
        taken = ap (λ (xs : List ℕ). xs ++ new_number (judge_probe e.meter p) p.number) is.taken ∙ q.taken ∙ ap (λ (k : ℕ). range_with_len 1 k) (sym taken);
      },
      number,
    )

-- ---- both ends

pub record Both (h : Hashes) (s t : Sender) (w : Ends) : Type 0 where
  pub one : EndIs h s t w.two.meter.number w.one
  pub two : EndIs h t s w.one.meter.number w.two

pub made_there : (h : Hashes) (mine theirs : Sender) (top : ℕ) (e : End) (place : ℕ) (p : Probe) → EndIs h mine theirs top e → slice_get e.made place ≡ Some p
    → Sound h mine theirs e.meter.number e.meter.taken p
made_there h mine theirs top e place p is there =
    subst (Sound h mine theirs e.meter.number e.meter.taken) (get_or_from_slice_get e.made place p p there)
    (All-get_or (Sound h mine theirs e.meter.number e.meter.taken) e.made place p (slice_get_within e.made place p there) is.made)

end_ticks : (h : Hashes) (mine theirs : Sender) (top now : ℕ) (due : Option ℕ) (e : End) → EndIs h mine theirs top e
    → EndIs h mine theirs top (published_where now due e) × ((published_where now due e).meter.number ≡ e.meter.number)
end_ticks h mine theirs top now None e is = (is, refl)
end_ticks h mine theirs top now (Some weight) e is =
    (record { sender = is.sender; low = is.low; proof = is.proof; made = is.made; taken = is.taken }, refl)

-- one end comes to a state with no fewer probes opened, and the other stays
one_moves : (h : Hashes) (s t : Sender) (w : Ends) (e : End) → Both h s t w → EndIs h s t w.two.meter.number e → w.one.meter.number ≤ e.meter.number
    → Both h s t (record w { one = e })
one_moves h s t w e b is grown = record { one = is; two = end_grown h t s w.one.meter.number e.meter.number w.two grown b.two }

two_moves : (h : Hashes) (s t : Sender) (w : Ends) (e : End) → Both h s t w → EndIs h t s w.one.meter.number e → w.two.meter.number ≤ e.meter.number
    → Both h s t (record w { two = e })
two_moves h s t w e b is grown = record { one = end_grown h s t w.two.meter.number e.meter.number w.one grown b.one; two = is }

pub both_move : (h : Hashes) (interval : ℕ) (s t : Sender) (w : Ends) (m : Move) → Both h s t w → Both h s t (moved h interval w m)
both_move h interval s t w (Makes true now) b =
    one_moves h s t w (made_at h now w.one) b (end_makes h s t w.two.meter.number now w.one b.one) (makes_more h now w.one)
both_move h interval s t w (Makes false now) b =
    two_moves h s t w (made_at h now w.two) b (end_makes h t s w.one.meter.number now w.two b.two) (makes_more h now w.two)
both_move h interval s t w (Meets true place now) b = go (slice_get w.two.made place) refl
  where
    go : (o : Option Probe) → slice_get w.two.made place ≡ o → Both h s t (record w { one = met_where h now o w.one })
    go None there = b
    go (Some p) there =
        let sound = made_there h t s w.one.meter.number w.two place p b.two there in
        let is = end_meets h s t w.two.meter.number w.two.meter.taken now p w.one b.one sound in
        one_moves h s t w (met h now p w.one) b is.0 (omega (arith, is.1))
both_move h interval s t w (Meets false place now) b = go (slice_get w.one.made place) refl
  where
    go : (o : Option Probe) → slice_get w.one.made place ≡ o → Both h s t (record w { two = met_where h now o w.two })
    go None there = b
    go (Some p) there =
        let sound = made_there h s t w.two.meter.number w.one place p b.one there in
        let is = end_meets h t s w.one.meter.number w.one.meter.taken now p w.two b.two sound in
        two_moves h s t w (met h now p w.two) b is.0 (omega (arith, is.1))
both_move h interval s t w (Ticks true minimum held now) b =
    let is = end_ticks h s t w.two.meter.number now (due_weight w.one.meter minimum held now interval) w.one b.one in
    one_moves h s t w (ticked minimum held now interval w.one) b is.0 (omega (arith, is.1))
both_move h interval s t w (Ticks false minimum held now) b =
    let is = end_ticks h t s w.one.meter.number now (due_weight w.two.meter minimum held now interval) w.two b.two in
    two_moves h s t w (ticked minimum held now interval w.two) b is.0 (omega (arith, is.1))

both_after : (h : Hashes) (interval : ℕ) (s t : Sender) (w : Ends) (moves : List Move) → Both h s t w → Both h s t (after h interval w moves)
both_after h interval s t w [] b = b
both_after h interval s t w (m ∷ moves) b = both_after h interval s t (moved h interval w m) moves (both_move h interval s t w m b)

-- so they are after any moves from the start
pub both_ends : (h : Hashes) (key : List ℕ) (u v : NodeId) (b c interval : ℕ) (moves : List Move)
    → Both h (sender_at key u b) (sender_at key v c) (after h interval (at_start key u v b c) moves)
both_ends h key u v b c interval moves =
    let s = sender_at key u b in
    let t = sender_at key v c in
    both_after h interval s t (at_start key u v b c) moves (record { one = end_is_new h s t; two = end_is_new h t s })

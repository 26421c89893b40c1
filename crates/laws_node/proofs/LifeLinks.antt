-- What each step says of a link, and a life of all of them.
use Rattle.std.proofs.Common.{◌≡◌, ℕ, ◌==◌, Bool, true, false, cond, not, List, [], ◌∷◌, ◌++◌, map, Option, Some, None, Result, Ok, Err, refl, sym, ap, subst}
use Rattle.std.proofs.Common.{◌∙◌, inl, inr, ◌&&◌}
use Rattle.std.specs.Prelude.{is_none, option_map, unwrap_or, zip}
use Rattle.std.specs.Result.{result_err}
use Rattle.std.proofs.lemmas.Bool.{cases_Bool, eqb-true, eq-eqb}
use Rattle.std.proofs.lemmas.List.{append-nil}
use Rattle.sp_base.specs.Cursor.{or_else}
use Rattle.sp_base.specs.Rows.{first_where}
use Rattle.sp_base.specs.declared.id.EdgeId.{EdgeId}
use Rattle.sp_base.specs.declared.id.NodeId.{NodeId}
use Rattle.sp_frame.specs.Sections.{Contents}
use Rattle.sp_frame.specs.declared.head.Head.{Head}
use Rattle.sp_frame.specs.declared.refused.FrameRefused.{FrameRefused}
use Rattle.sp_frame.specs.declared.refused.FrameRefused.TheVariants as frames
use Rattle.sp_frame.specs.declared.refused.SectionRefused.{SectionRefused}
use Rattle.sp_msg.specs.declared.body.Ack.{Ack}
use Rattle.sp_msg.specs.declared.refused.SendRefused.{SendRefused}
use Rattle.sp_rules.proofs.ArrivalLemmas.{link_stays, link_with, of_frame, of_fresh, of_link}
use Rattle.sp_rules.specs.Arrivals.{before_document, document_at, document_in, link_after, link_says, not_open, not_taken, read_by, reply_at, sections_in}
use Rattle.sp_rules.specs.Arts.{Arts, is_right}
use Rattle.sp_rules.specs.KflowSends.{send_krel_refusal}
use Rattle.sp_rules.specs.Link.{Link, advanced, after_answer, is_above, new_link, pair_of}
use Rattle.sp_rules.specs.Node.{NodeState, announced, booted, call_refusal, called, is_link, is_neighbour, is_shut_to, kept_or, link_in, link_of, with_link}
use Rattle.sp_rules.specs.Parts.{Fixed, neighbours_of}
use Rattle.sp_rules.specs.Polls.{parts_after}
use Rattle.sp_rules.specs.Sends.{rel_refusal, send_prio_refusal, signer_refusal, weight_refusal}
use Rattle.sp_rules.specs.Steps.{Input, NodeStep, Output, Poll, Datagram, Tick, SendRel, SendPrio, SetWeight, TakeRel, TakePrio, SendKrel, TakeKrel, Publish}
use Rattle.sp_rules.specs.Steps.{arrived, refused_call}
use Rattle.sp_rules.specs.Ticks.{after_plain, at_time, due_now, second_refusal, settled_by}
use Rattle.sp_rules.specs.declared.kflow.FlowKind.{FlowKind}
use Rattle.sp_rules.specs.declared.kflow.FlowKind.TheVariants.{Plain, Paths}
use Rattle.sp_rules.specs.declared.link.LinkAnswer.{LinkAnswer}
use Rattle.sp_rules.specs.declared.link.LinkAnswer.TheVariants as answers
use Rattle.sp_rules.specs.declared.node.LinkReply.TheVariants as replies
use Rattle.sp_rules.specs.declared.node.NodeRefused.{NodeRefused}
use Rattle.sp_rules.specs.declared.node.NodeRefused.TheVariants as refusals
use Rattle.laws_node.specs.LifeLaws.{PairsOfLives}
use Rattle.laws_node.specs.LinkArrivals.{fresh_pair, greatest, learned_pair}
use Rattle.laws_node.specs.Lives.{Life, pair_told, pairs_of_life, pairs_told}
use Rattle.laws_node.proofs.Adopting.{publishing, reading}
use Rattle.laws_node.proofs.FreshLemmas.{one}
use Rattle.laws_node.proofs.TableReads.{first_replaced, other_replaced}

-- a link that knows the boot of the pair that it keeps became another one, and this was told of it
record Goes (old : Link) (told : List (ℕ × ℕ)) (new : Link) : Type 0 where
  known : new.seen.0 ≡ new.peer_boot
  most : new.seen ≡ greatest old.seen told

rests : (old new : Link) → new.seen ≡ old.seen → new.peer_boot ≡ old.peer_boot → old.seen.0 ≡ old.peer_boot → Goes old [] new
rests old new seen boot known = record { known = ap (λ (p : ℕ × ℕ). p.0) seen ∙ known ∙ sym boot; most = seen }

-- ---- a datagram

fresh_told : (p : ℕ × ℕ) (mine theirs : ℕ) (documents : Bool) (s : Result Contents SectionRefused) (shut : Bool)
    → pair_told p (of_fresh mine theirs documents s shut) ≡ p ∷ []
fresh_told p mine theirs documents s shut = by (not (theirs == mine) && not documents) s
  where
    last : (t : Bool) → pair_told p (unwrap_or (cond t (Some replies.Withdrawn) None) replies.Fresh) ≡ p ∷ []
    last true = refl
    last false = refl

    by : (t : Bool) (s : Result Contents SectionRefused)
        → pair_told p (unwrap_or (or_else (cond t (Some (replies.OtherTopology theirs)) (option_map replies.Section (result_err s)))
        (not_open (document_in s) shut)) replies.Fresh) ≡ p ∷ []
    by true s = refl
    by false (Ok contents) = last (shut && is_none contents.document)
    by false (Err refused) = refl

answer_told : (arts : Arts) (f : Fixed) (version : ℕ) (shut : Bool) (bytes : List ℕ) (a : LinkAnswer)
    → pair_told (pair_of (arts.head bytes)) (of_link a (not_taken version (arts.head bytes).topology (arts.is_document bytes) (sections_in arts f bytes) shut))
    ≡ fresh_pair (arts.head bytes) a ++ learned_pair a
answer_told arts f version shut bytes answers.NotForMe = refl
answer_told arts f version shut bytes answers.BadTag = refl
answer_told arts f version shut bytes (answers.Learned boot) = refl
answer_told arts f version shut bytes (answers.Stale boot counter) = refl
answer_told arts f version shut bytes answers.Fresh =
    fresh_told (pair_of (arts.head bytes)) version (arts.head bytes).topology (arts.is_document bytes) (sections_in arts f bytes) shut

comes : (arts : Arts) (f : Fixed) (version : ℕ) (shut : Bool) (l : Link) (bytes : List ℕ) (o : Result (List ℕ) FrameRefused) → l.seen.0 ≡ l.peer_boot
    → Goes l (pair_told (pair_of (arts.head bytes)) (of_frame arts f version shut l bytes o)) (link_with arts l bytes o)
comes arts f version shut l bytes (Err frames.TooLong) known = rests l l refl refl known
comes arts f version shut l bytes (Err (frames.Short short)) known = rests l l refl refl known
comes arts f version shut l bytes (Err frames.Magic) known = rests l l refl refl known
comes arts f version shut l bytes (Err frames.Version) known = rests l l refl refl known
comes arts f version shut l bytes (Ok frame) known =
    let h = arts.head bytes in
    let a = link_says arts l bytes in
    let goes = one l h (is_right arts l.key bytes) known in
    let all : (fresh_pair h a ++ learned_pair a) ++ [] ≡ pair_told (pair_of h)
    (of_link a (not_taken version h.topology (arts.is_document bytes) (sections_in arts f bytes) shut)) =
    append-nil (fresh_pair h a ++ learned_pair a) ∙ sym (answer_told arts f version shut bytes a) in
    record { known = goes.known; most = sym (goes.most []) ∙ ap (greatest l.seen) all }

-- ---- which link

same_id : (u v : NodeId) → (u.0 == v.0) ≡ true → u ≡ v
same_id u v e = ap (λ (n : ℕ). record { 0 = n }) (eqb-true u.0 v.0 e)

apart : (u v : NodeId) (l : Link) → (u.0 == v.0) ≡ false → is_link u l ≡ true → is_link v l ≡ false
apart u v l other is = ap (λ (n : ℕ). n == v.0) (eqb-true l.peer.0 u.0 is) ∙ other

answer_peer : (l : Link) (h : Head) (a : LinkAnswer) → (after_answer l h a).peer ≡ l.peer
answer_peer l h answers.NotForMe = refl
answer_peer l h answers.BadTag = refl
answer_peer l h (answers.Learned boot) = refl
answer_peer l h (answers.Stale boot counter) = refl
answer_peer l h answers.Fresh = refl

comes_peer : (arts : Arts) (l : Link) (bytes : List ℕ) (o : Result (List ℕ) FrameRefused) → (link_with arts l bytes o).peer ≡ l.peer
comes_peer arts l bytes (Err e) = ap (λ (k : Link). k.peer) (link_stays arts l bytes e)
comes_peer arts l bytes (Ok frame) = answer_peer l (arts.head bytes) (link_says arts l bytes)

-- what is read for a neighbour is its link, also where there is none
its_own : (v : NodeId) (me : NodeId) (links : List Link) → is_link v (first_where (is_link v) (new_link me v 0 []) links) ≡ true
its_own v me [] = eq-eqb v.0 v.0 refl
its_own v me (l ∷ links) = elim (cases_Bool (is_link v l)) [ inl t ↦ rw t t | inr t ↦ rw t (its_own v me links) ]

-- the link of one neighbour changes, as long as it stays that neighbour's, and all that was told of links was of that one
one_link : (n : NodeState) (u v : NodeId) (new : Link) (told : List (ℕ × ℕ)) → is_neighbour n u ≡ true → new.peer ≡ (link_in n u).peer
    → (link_in n v).seen.0 ≡ (link_in n v).peer_boot → ((link_in n u).seen.0 ≡ (link_in n u).peer_boot → Goes (link_in n u) told new)
    → Goes (link_in n v) (cond (u.0 == v.0) told []) (first_where (is_link v) (new_link n.fixed.me v 0 []) (with_link n u new))
one_link n u v new told there peer known goes =
    let mine : is_link u new ≡ true = ap (λ (w : NodeId). w.0 == u.0) peer ∙ its_own u n.fixed.me n.links in
    elim (cases_Bool (u.0 == v.0)) [
      | inl t ↦
          let is : u ≡ v = same_id u v t in
          let found : first_where (is_link v) (new_link n.fixed.me v 0 []) (with_link n u new) ≡ new =
          subst (λ (w : NodeId). first_where (is_link w) (new_link n.fixed.me w 0 []) (with_link n u new) ≡ new) is
          (first_replaced (is_link u) (new_link n.fixed.me u 0 []) new n.links mine there) in
          let done = subst (λ (w : NodeId). (link_in n w).seen.0 ≡ (link_in n w).peer_boot → Goes (link_in n w) told new) is goes known in
          rw t (subst (λ (l : Link). Goes (link_in n v) told l) (sym found) done)
      | inr t ↦
          let found : first_where (is_link v) (new_link n.fixed.me v 0 []) (with_link n u new) ≡ link_in n v =
          other_replaced (is_link u) (is_link v) (new_link n.fixed.me v 0 []) new n.links (λ l is. apart u v l t is) (apart u v new t mine) in
          rw t (subst (λ (l : Link). Goes (link_in n v) [] l) (sym found) (rests (link_in n v) (link_in n v) refl refl known))
    ]

-- ---- each step

abbrev LinkGoes : Arts → NodeId → NodeState → Input → Output → NodeState → Type 0
LinkGoes arts v n input output new = Goes (link_in n v) (pairs_told arts v input output.reply) (link_in new v)

none_either : (t : Bool) (ps : List (ℕ × ℕ)) → ps ≡ [] → cond t ps [] ≡ []
none_either true ps e = e
none_either false ps e = refl

neighbours : (n : NodeState) (u : NodeId) (r : Option NodeRefused) → cond (not (is_neighbour n u)) (Some refusals.NotNeighbour) r ≡ None
    → is_neighbour n u ≡ true
neighbours n u r e = by (is_neighbour n u) refl e
  where
    by : (t : Bool) → is_neighbour n u ≡ t → cond (not t) (Some refusals.NotNeighbour) r ≡ None → is_neighbour n u ≡ true
    by true is e = is
    by false is e = absurd (cc)

quiet : {R : Type 0} (n done : NodeState) (v : NodeId) (r : Option R) → (link_in done v) ≡ (link_in n v) → (link_in n v).seen.0 ≡ (link_in n v).peer_boot
    → Goes (link_in n v) [] (link_in (kept_or r n done) v)
quiet n done v (Some x) same known = rests (link_in n v) (link_in n v) refl refl known
quiet n done v None same known = subst (λ (l : Link). Goes (link_in n v) [] l) (sym same) (rests (link_in n v) (link_in n v) refl refl known)

-- a document leaves the links
read_links : (arts : Arts) (n : NodeState) (document : Option (List ℕ)) (v : NodeId) → link_in (read_by arts n document) v ≡ link_in n v
read_links arts n document v = reading arts n document (λ m told. link_in m v ≡ link_in n v) refl (λ bytes d is reads by. refl)

-- an acknowledgement that is signed leaves the links
settled_link : (arts : Arts) (kind : FlowKind) (n : NodeState) (v : NodeId) (a : Option Ack) (r : Option SendRefused)
    → link_in (settled_by arts kind n a r) v ≡ link_in n v
settled_link arts kind n v None r = refl
settled_link arts kind n v (Some ack) (Some refusal) = refl
settled_link arts kind n v (Some ack) None = refl

step_goes : (arts : Arts) (v : NodeId) (n : NodeState) (input : Input) (output : Output) (new : NodeState) → NodeStep arts n input output new
    → (link_in n v).seen.0 ≡ (link_in n v).peer_boot → LinkGoes arts v n input output new
step_goes arts v n (Poll u) output new s known =
    subst (λ (m : NodeState). Goes (link_in n v) [] (link_in m v)) (sym s.1) (go (call_refusal n u) refl)
  where
    done : NodeState
    done = called n (with_link n u (advanced (link_in n u))) (parts_after n u)

    go : (r : Option NodeRefused) → call_refusal n u ≡ r → Goes (link_in n v) [] (link_in (kept_or r n done) v)
    go (Some refused) e = rests (link_in n v) (link_in n v) refl refl known
    go None e =
        subst (λ (ps : List (ℕ × ℕ)). Goes (link_in n v) ps (link_in done v)) (none_either (u.0 == v.0) [] refl)
        (one_link n u v (advanced (link_in n u)) [] (neighbours n u _ e) refl known (λ k. rests (link_in n u) (advanced (link_in n u)) refl refl k))
step_goes arts v n (Datagram u bytes) output new s known =
    subst (λ (o : Output). LinkGoes arts v n (Datagram u bytes) o new) (sym s.0)
    (subst (λ (m : NodeState). LinkGoes arts v n (Datagram u bytes) (refused_call (call_refusal n u) (arrived arts n u bytes)) m) (sym s.1)
    (go (call_refusal n u) refl))
  where
    done : NodeState
    done = read_by arts (before_document arts n u bytes) (document_at arts n u bytes)

    go : (r : Option NodeRefused) → call_refusal n u ≡ r → LinkGoes arts v n (Datagram u bytes) (refused_call r (arrived arts n u bytes)) (kept_or r n done)
    go (Some refused) e = rests (link_in n v) (link_in n v) refl refl known
    go None e =
        subst (Goes (link_in n v) (cond (u.0 == v.0) (pair_told (pair_of (arts.head bytes)) (reply_at arts n u bytes)) []))
        (sym (read_links arts (before_document arts n u bytes) (document_at arts n u bytes) v))
        (one_link n u v (link_after arts n u bytes) (pair_told (pair_of (arts.head bytes)) (reply_at arts n u bytes)) (neighbours n u _ e)
        (comes_peer arts (link_in n u) bytes (arts.opened bytes)) known
        (λ k. comes arts n.fixed n.live.version (is_shut_to n u) (link_in n u) bytes (arts.opened bytes) k))
step_goes arts v n (Tick now) output new s known =
    subst (λ (m : NodeState). Goes (link_in n v) [] (link_in m v)) (sym s.1)
    (subst (λ (l : Link). Goes (link_in n v) [] l)
    (sym (settled_link arts Paths (after_plain arts n now) v (due_now Paths n) (second_refusal arts n now)
    ∙ settled_link arts Plain (at_time n now) v (due_now Plain n) (signer_refusal n.signer)))
    (rests (link_in n v) (link_in n v) refl refl known))
step_goes arts v n (SendRel dst payload) output new s known =
    subst (λ (m : NodeState). Goes (link_in n v) [] (link_in m v)) (sym s.1) (quiet n _ v (rel_refusal n dst) refl known)
step_goes arts v n (SendPrio m) output new s known =
    subst (λ (m : NodeState). Goes (link_in n v) [] (link_in m v)) (sym s.new_is) (quiet n _ v (send_prio_refusal n m s.choice) refl known)
step_goes arts v n (SetWeight u weight) output new s known =
    subst (λ (m : NodeState). Goes (link_in n v) [] (link_in m v)) (sym s.1) (quiet n _ v (weight_refusal n u weight) refl known)
step_goes arts v n (TakeRel src) output new s known =
    subst (λ (m : NodeState). Goes (link_in n v) [] (link_in m v)) (sym s.1) (rests (link_in n v) (link_in n v) refl refl known)
step_goes arts v n (SendKrel m) output new s known =
    subst (λ (m : NodeState). Goes (link_in n v) [] (link_in m v)) (sym s.new_is) (quiet n _ v (send_krel_refusal n m s.choice) refl known)
step_goes arts v n (TakeKrel src) output new s known =
    subst (λ (m : NodeState). Goes (link_in n v) [] (link_in m v)) (sym s.1) (rests (link_in n v) (link_in n v) refl refl known)
step_goes arts v n TakePrio output new s known =
    subst (λ (m : NodeState). Goes (link_in n v) [] (link_in m v)) (sym s.1) (rests (link_in n v) (link_in n v) refl refl known)
step_goes arts v n (Publish document) output new s known =
    subst (λ (m : NodeState). Goes (link_in n v) [] (link_in m v)) (sym s.1)
    (publishing arts n document (λ m told. Goes (link_in n v) [] (link_in m v)) same (λ d reads by. same))
  where
    same : Goes (link_in n v) [] (link_in n v)
    same = rests (link_in n v) (link_in n v) refl refl known

-- ---- a life

greatest_both : (xs ys : List (ℕ × ℕ)) (p : ℕ × ℕ) → greatest p (xs ++ ys) ≡ greatest (greatest p xs) ys
greatest_both [] ys p = refl
greatest_both (x ∷ xs) ys p = greatest_both xs ys (cond (is_above x p) x p)

life_goes : (arts : Arts) (v : NodeId) (n : NodeState) (steps : List (Input × Output)) (last : NodeState) → Life arts n steps last
    → (link_in n v).seen.0 ≡ (link_in n v).peer_boot → Goes (link_in n v) (pairs_of_life arts v steps) (link_in last v)
life_goes arts v n [] last life known =
    subst (λ (m : NodeState). Goes (link_in n v) [] (link_in m v)) (sym life) (rests (link_in n v) (link_in n v) refl refl known)
life_goes arts v n (step ∷ steps) last life known =
    let first = step_goes arts v n step.0 step.1 life.0 life.1 known in
    let rest = life_goes arts v life.0 steps last life.2 first.known in
    let told = pairs_told arts v step.0 step.1.reply in
    record {
      known = rest.known;
      most = rest.most ∙ ap (λ (p : ℕ × ℕ). greatest p (pairs_of_life arts v steps)) first.most
          ∙ sym (greatest_both told (pairs_of_life arts v steps) (link_in n v).seen);
    }

-- a link of which nothing was heard
fresh_link : (f : Fixed) (v : NodeId) (ns : List ((NodeId × EdgeId) × List ℕ))
    → (first_where (is_link v) (new_link f.me v 0 []) (map (link_of f) ns)).seen ≡ (0, 0)
fresh_link f v [] = refl
fresh_link f v (n ∷ ns) = elim (cases_Bool (is_link v (link_of f n))) [ inl t ↦ rw t refl | inr t ↦ rw t (fresh_link f v ns) ]

fresh_boot : (f : Fixed) (v : NodeId) (ns : List ((NodeId × EdgeId) × List ℕ))
    → (first_where (is_link v) (new_link f.me v 0 []) (map (link_of f) ns)).peer_boot ≡ 0
fresh_boot f v [] = refl
fresh_boot f v (n ∷ ns) = elim (cases_Bool (is_link v (link_of f n))) [ inl t ↦ rw t refl | inr t ↦ rw t (fresh_boot f v ns) ]

abbrev KeepsGreatest : Arts → NodeId → List (Input × Output) → NodeState → Type 0
KeepsGreatest arts v steps last =
    ((link_in last v).seen ≡ greatest (0, 0) (pairs_of_life arts v steps)) × ((link_in last v).seen.0 ≡ (link_in last v).peer_boot)

pub pairs_of_lives : PairsOfLives
pairs_of_lives arts f signer keys buffer store steps last v life = begins f.epochs life
  where
    n : NodeState
    n = booted f signer keys buffer store

    links : List ((NodeId × EdgeId) × List ℕ)
    links = zip (neighbours_of f) keys

    from : (m : NodeState) → (link_in m v).seen ≡ (0, 0) → (link_in m v).peer_boot ≡ 0 → Life arts m steps last → KeepsGreatest arts v steps last
    from m seen boot life =
        let goes = life_goes arts v m steps last life (ap (λ (p : ℕ × ℕ). p.0) seen ∙ sym boot) in
        (goes.most ∙ ap (λ (p : ℕ × ℕ). greatest p (pairs_of_life arts v steps)) seen, goes.known)

    begins : (epochs : Bool) → Life arts (cond epochs (announced arts n) n) steps last → KeepsGreatest arts v steps last
    begins true life = from (announced arts n) (fresh_link f v links) (fresh_boot f v links) life
    begins false life = from n (fresh_link f v links) (fresh_boot f v links) life

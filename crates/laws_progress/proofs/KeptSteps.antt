-- What each step of a node leaves of the version that it keeps of a neighbour.
use Rattle.std.proofs.Common.{◌≡◌, ◌⊎◌, ◌≤◌, ℕ, ◌&&◌, Bool, true, false, cond, List, Option, Some, None, Result, Ok, Err, refl, sym, ap, subst, ◌∙◌}
use Rattle.std.proofs.Common.{inl, inr, arith}
use Rattle.std.specs.List.{list_any}
use Rattle.std.proofs.lemmas.Bool.{cases_eq, eq-eqb, eqb-true, ne_eqb}
use Rattle.sp_base.specs.declared.id.NodeId.{NodeId}
use Rattle.sp_frame.specs.declared.refused.FrameRefused.{FrameRefused}
use Rattle.sp_frame.specs.declared.refused.FrameRefused.TheVariants as frames
use Rattle.sp_rules.proofs.ArrivalLemmas.{link_with, of_frame, of_link}
use Rattle.sp_rules.specs.Arrivals as arrivals
use Rattle.sp_rules.specs.Arrivals.{before_document, document_at, heard_after, is_from_peer, link_after, link_says, no_frame, not_taken, read_by, reply_at}
use Rattle.sp_rules.specs.Arrivals.{sections_in, version_after}
use Rattle.sp_rules.specs.Arts.{Arts}
use Rattle.sp_rules.specs.Link.{Link, after_answer}
use Rattle.sp_rules.specs.Node.{NodeState, call_refusal, is_link, is_shut_to, kept_or, link_in, version_of}
use Rattle.sp_rules.specs.Parts.{changes}
use Rattle.sp_rules.specs.Sends.{rel_refusal, send_prio_refusal, weight_refusal}
use Rattle.sp_rules.specs.Steps.{Datagram, Input, NodeStep, Output, Poll, Publish, SendKrel, SendPrio, SendRel, SetWeight, TakeKrel, TakePrio, TakeRel, Tick}
use Rattle.laws_progress.proofs.Ticked.{ticked}
use Rattle.sp_rules.specs.Versions.{Heard, is_heard_of, kept_version, none_heard, version_in, with_version}
use Rattle.sp_rules.specs.declared.link.LinkAnswer.{LinkAnswer}
use Rattle.sp_rules.specs.declared.link.LinkAnswer.TheVariants as answers
use Rattle.sp_rules.specs.declared.node.LinkReply.{LinkReply}
use Rattle.sp_rules.specs.declared.node.NodeRefused.{NodeRefused}
use Rattle.sp_rules.specs.KflowSends.{send_krel_refusal}
use Rattle.laws_node.proofs.Adopting.{publishing, reading}
use Rattle.laws_node.proofs.TableReads.{first_replaced, other_replaced}
use Rattle.laws_runs.proofs.Tables.{same_node}
use Rattle.sp_runs.specs.Forgery.{is_tagged}
use Rattle.sp_runs.specs.Journals.{reply_word}
use Rattle.sp_runs.specs.Settings.{Setting}
use Rattle.sp_journal.specs.declared.entry.Reply.{Reply}
use Rattle.laws_progress.proofs.Keys.{after_peer}
use Rattle.laws_progress.proofs.Known.{tagged_fresh}
use Rattle.laws_progress.proofs.Links.{Hears, LinkAfter, Rests, Sends, link_step, put_link}
use Rattle.laws_progress.proofs.Polls.{answered}

-- ---- the number that is kept

-- at most a bound of both, where each of them counts
pub kept_most : (epochs rises known : Bool) (kept theirs most : ℕ) → ((epochs ≡ true → (rises ≡ true) ⊎ (known ≡ true)) → theirs ≤ most)
    → ((epochs ≡ true → rises ≡ false) → kept ≤ most) → kept_version epochs rises known kept theirs ≤ most
kept_most false rises known kept theirs most new old =
    let a = new (λ on. absurd (let f : false ≡ true = on in cc)) in
    let b = old (λ on. absurd (let f : false ≡ true = on in cc)) in
    omega (arith, a, b)
kept_most true true known kept theirs most new old = new (λ on. inl refl)
kept_most true false true kept theirs most new old =
    let a = new (λ on. inr refl) in
    let b = old (λ on. refl) in
    omega (arith, a, b)
kept_most true false false kept theirs most new old = old (λ on. refl)

-- at least what was kept, where no boot rises
pub kept_least : (epochs rises known : Bool) (kept theirs : ℕ) → (epochs ≡ true → rises ≡ false) → kept ≤ kept_version epochs rises known kept theirs
kept_least false rises known kept theirs stays = omega arith
kept_least true true known kept theirs stays = absurd (let f : true ≡ false = stays refl in cc)
kept_least true false true kept theirs stays = omega arith
kept_least true false false kept theirs stays = omega arith

-- ---- a datagram

-- It leaves the link and all versions, or it has the sender's tag and its version counts
pub data Tells (arts : Arts) (n : NodeState) (v : NodeId) (bytes : List ℕ) : Type 0 where
  Nothing_told : link_after arts n v bytes ≡ link_in n v → heard_after arts n v bytes ≡ n.heard → Tells arts n v bytes
  Version_told : is_tagged (reply_at arts n v bytes) ≡ true → heard_after arts n v bytes ≡ with_version n.heard v (version_after arts n v bytes)
      → Tells arts n v bytes

pub tells : (arts : Arts) (n : NodeState) (v : NodeId) (bytes : List ℕ) → changes n.fixed ≡ true → Tells arts n v bytes
tells arts n v bytes may = of (arts.opened bytes) refl
  where
    l : Link
    l = link_in n v

    version : ℕ
    version = version_after arts n v bytes

    put : Bool → List Heard
    put told = cond told (with_version n.heard v version) n.heard

    -- by what the bytes are
    heard_by : Result (List ℕ) FrameRefused → LinkAnswer → List Heard
    heard_by o a = put (changes n.fixed && is_from_peer (no_frame o) a)

    rest : Option LinkReply
    rest = not_taken n.live.version (arts.head bytes).topology (arts.is_document bytes) (sections_in arts n.fixed bytes) (is_shut_to n v)

    none : heard_after arts n v bytes ≡ put (changes n.fixed && false) → heard_after arts n v bytes ≡ n.heard
    none is = is ∙ ap (λ (t : Bool). put (t && false)) may

    some : heard_after arts n v bytes ≡ put (changes n.fixed && true) → heard_after arts n v bytes ≡ with_version n.heard v version
    some is = is ∙ ap (λ (t : Bool). put (t && true)) may

    says : (o : Result (List ℕ) FrameRefused) → arts.opened bytes ≡ o → link_after arts n v bytes ≡ link_with arts l bytes o
    says o is = ap (link_with arts l bytes) is

    heard_is : (o : Result (List ℕ) FrameRefused) → arts.opened bytes ≡ o → heard_after arts n v bytes ≡ heard_by o (link_says arts l bytes)
    heard_is o is = ap (λ (r : Result (List ℕ) FrameRefused). heard_by r (link_says arts l bytes)) is

    reply_tagged : (frame : List ℕ) → arts.opened bytes ≡ Ok frame → (a : LinkAnswer) → link_says arts l bytes ≡ a → is_tagged (of_link a rest) ≡ true
        → is_tagged (reply_at arts n v bytes) ≡ true
    reply_tagged frame is a e tagged =
        ap (λ (o : Result (List ℕ) FrameRefused). is_tagged (of_frame arts n.fixed n.live.version (is_shut_to n v) l bytes o)) is
        ∙ ap (λ (z : LinkAnswer). is_tagged (of_link z rest)) e ∙ tagged

    by_link : (frame : List ℕ) → arts.opened bytes ≡ Ok frame → (a : LinkAnswer) → link_says arts l bytes ≡ a → Tells arts n v bytes
    by_link frame is answers.NotForMe e =
        Nothing_told (says (Ok frame) is ∙ ap (after_answer l (arts.head bytes)) e) (none (heard_is (Ok frame) is ∙ ap (heard_by (Ok frame)) e))
    by_link frame is answers.BadTag e =
        Nothing_told (says (Ok frame) is ∙ ap (after_answer l (arts.head bytes)) e) (none (heard_is (Ok frame) is ∙ ap (heard_by (Ok frame)) e))
    by_link frame is (answers.Learned boot) e =
        Version_told (reply_tagged frame is (answers.Learned boot) e refl) (some (heard_is (Ok frame) is ∙ ap (heard_by (Ok frame)) e))
    by_link frame is (answers.Stale boot counter) e =
        Version_told (reply_tagged frame is (answers.Stale boot counter) e refl) (some (heard_is (Ok frame) is ∙ ap (heard_by (Ok frame)) e))
    by_link frame is answers.Fresh e = Version_told (reply_tagged frame is answers.Fresh e
        (tagged_fresh n.live.version (arts.head bytes).topology (arts.is_document bytes) (sections_in arts n.fixed bytes) (is_shut_to n v)))
        (some (heard_is (Ok frame) is ∙ ap (heard_by (Ok frame)) e))

    of : (o : Result (List ℕ) FrameRefused) → arts.opened bytes ≡ o → Tells arts n v bytes
    of (Err frames.TooLong) is = Nothing_told (says (Err frames.TooLong) is) (none (heard_is (Err frames.TooLong) is))
    of (Err (frames.Short short)) is = Nothing_told (says (Err (frames.Short short)) is) (none (heard_is (Err (frames.Short short)) is))
    of (Err frames.Magic) is = Nothing_told (says (Err frames.Magic) is) (none (heard_is (Err frames.Magic) is))
    of (Err frames.Version) is = Nothing_told (says (Err frames.Version) is) (none (heard_is (Err frames.Version) is))
    of (Ok frame) is = by_link frame is (link_says arts l bytes) refl

-- the version that is put in is found again
pub put_again : (v : NodeId) (version : ℕ) (rows : List Heard) → list_any (is_heard_of v) rows ≡ true → version_in (with_version rows v version) v ≡ version
put_again v version rows there =
    ap (λ (h : Heard). h.version) (first_replaced (is_heard_of v) (none_heard v) (record { peer = v; version = version }) rows (eq-eqb v.0 v.0 refl) there)

-- those of others stay
other_kept : (arts : Arts) (n : NodeState) (u v : NodeId) (bytes : List ℕ) → (u ≡ v → ⊥) → version_in (heard_after arts n u bytes) v ≡ version_of n v
other_kept arts n u v bytes away = go (arrivals.is_told arts n u bytes)
  where
    row : Heard
    row = record { peer = u; version = version_after arts n u bytes }

    go : (told : Bool) → version_in (cond told (with_version n.heard u (version_after arts n u bytes)) n.heard) v ≡ version_of n v
    go false = refl
    go true =
        ap (λ (h : Heard). h.version)
        (other_replaced (is_heard_of u) (is_heard_of v) (none_heard v) row n.heard
        (λ h t. ne_eqb _ _ (λ z. away (sym (same_node h.peer u (eqb-true _ _ t)) ∙ same_node h.peer v z)))
        (ne_eqb _ _ (λ z. away (same_node u v z))))

-- ---- a step

-- of the boot that is known and of the version that is kept
pub data KeptAfter (arts : Arts) (n : NodeState) (i : Input) (m : NodeState) (v : NodeId) : Type 0 where
  Same : (link_in m v).peer_boot ≡ (link_in n v).peer_boot → version_of m v ≡ version_of n v → KeptAfter arts n i m v
  Comes : (bytes : List ℕ) → i ≡ Datagram v bytes → link_in m v ≡ link_after arts n v bytes → m.heard ≡ heard_after arts n v bytes → KeptAfter arts n i m v

-- a datagram that was answered
pub record CameStep (arts : Arts) (n : NodeState) (v : NodeId) (bytes : List ℕ) (m : NodeState) : Type 0 where
  pub free : call_refusal n v ≡ None
  pub heard : m.heard ≡ heard_after arts n v bytes
  pub link : list_any (is_link v) n.links ≡ true → link_in m v ≡ link_after arts n v bytes

pub came_step : (arts : Arts) (x : Setting) (n : NodeState) (v : NodeId) (bytes : List ℕ) (o : Output) (m : NodeState) (k : ℕ) (reply : Reply)
    → NodeStep arts n (Datagram v bytes) o m → reply_word x k o.reply ≡ Some reply → CameStep arts n v bytes m
came_step arts x n v bytes o m k reply s says =
    let free = answered x k (call_refusal n v) _ reply (ap (λ (p : Output). reply_word x k p.reply) (sym s.0) ∙ says) in
    let left = before_document arts n v bytes in
    let made = read_by arts left (document_at arts n v bytes) in
    let after : m ≡ made = s.1 ∙ ap (λ (r : Option NodeRefused). kept_or r n made) free in
    record {
      free = free;
      heard = ap (λ (q : NodeState). q.heard) after
          ∙ reading arts left (document_at arts n v bytes) (λ q told. q.heard ≡ left.heard) refl (λ document d is reads by. refl);
      link = λ there.
          ap (λ (q : NodeState). link_in q v) after
          ∙ reading arts left (document_at arts n v bytes) (λ q told. link_in q v ≡ link_in left v) refl (λ document d is reads by. refl)
          ∙ put_link n v (link_after arts n v bytes) (after_peer arts n v bytes) there;
    }

kept_heard : {X : Type 0} (r : Option X) (n q : NodeState) → q.heard ≡ n.heard → (kept_or r n q).heard ≡ n.heard
kept_heard None n q same = same
kept_heard (Some refused) n q same = refl

others : (arts : Arts) (n : NodeState) (i : Input) (m : NodeState) (v : NodeId) → ((bytes : List ℕ) → i ≡ Datagram v bytes → ⊥)
    → version_of m v ≡ version_of n v → LinkAfter arts n i m v → KeptAfter arts n i m v
others arts n i m v never same (Rests quiet link) = Same (ap (λ (l : Link). l.peer_boot) link) same
others arts n i m v never same (Sends is link) = Same (ap (λ (l : Link). l.peer_boot) link) same
others arts n i m v never same (Hears bytes is link) = absurd (never bytes is)

pub kept_step : (arts : Arts) (x : Setting) (n : NodeState) (i : Input) (o : Output) (m : NodeState) (v : NodeId) (k : ℕ) (reply : Reply)
    → list_any (is_link v) n.links ≡ true → NodeStep arts n i o m → reply_word x k o.reply ≡ Some reply → KeptAfter arts n i m v
kept_step arts x n (Datagram u bytes) o m v k reply there s says = elim (cases_eq u.0 v.0) [
  | inl z ↦
      let is : u ≡ v = same_node u v z in
      let step : NodeStep arts n (Datagram v bytes) o m = subst (λ (a : NodeId). NodeStep arts n (Datagram a bytes) o m) is s in
      let came = came_step arts x n v bytes o m k reply step says in
      Comes bytes (ap (λ (a : NodeId). Datagram a bytes) is) (came.link there) came.heard
  | inr z ↦
      let away : u ≡ v → ⊥ = λ e. z (ap (λ (a : NodeId). a.0) e) in
      others arts n (Datagram u bytes) m v (λ frame e. away (let same : Datagram u bytes ≡ Datagram v frame = e in cc))
      (ap (λ (hs : List Heard). version_in hs v) (came_step arts x n u bytes o m k reply s says).heard ∙ other_kept arts n u v bytes away)
      (link_step arts x n (Datagram u bytes) o m v k reply there s says)
]
kept_step arts x n (Poll u) o m v k reply there s says =
    others arts n (Poll u) m v (λ frame e. absurd (cc))
    (ap (λ (hs : List Heard). version_in hs v) (ap (λ (q : NodeState). q.heard) s.1 ∙ kept_heard (call_refusal n u) n _ refl))
    (link_step arts x n (Poll u) o m v k reply there s says)
kept_step arts x n (Tick now) o m v k reply there s says =
    others arts n (Tick now) m v (λ frame e. absurd (cc))
    (ap (λ (hs : List Heard). version_in hs v)
    (ap (λ (q : NodeState). q.heard) s.1 ∙ ticked (λ q. q.heard ≡ n.heard) arts n now refl (λ o. refl) (λ q r same. same)))
    (link_step arts x n (Tick now) o m v k reply there s says)
kept_step arts x n (SendRel dst payload) o m v k reply there s says =
    others arts n (SendRel dst payload) m v (λ frame e. absurd (cc))
    (ap (λ (hs : List Heard). version_in hs v) (ap (λ (q : NodeState). q.heard) s.1 ∙ kept_heard (rel_refusal n dst) n _ refl))
    (link_step arts x n (SendRel dst payload) o m v k reply there s says)
kept_step arts x n (SendPrio q) o m v k reply there s says =
    others arts n (SendPrio q) m v (λ frame e. absurd (cc))
    (ap (λ (hs : List Heard). version_in hs v) (ap (λ (z : NodeState). z.heard) s.new_is ∙ kept_heard (send_prio_refusal n q s.choice) n _ refl))
    (link_step arts x n (SendPrio q) o m v k reply there s says)
kept_step arts x n (SetWeight u weight) o m v k reply there s says =
    others arts n (SetWeight u weight) m v (λ frame e. absurd (cc))
    (ap (λ (hs : List Heard). version_in hs v) (ap (λ (q : NodeState). q.heard) s.1 ∙ kept_heard (weight_refusal n u weight) n _ refl))
    (link_step arts x n (SetWeight u weight) o m v k reply there s says)
kept_step arts x n (TakeRel src) o m v k reply there s says =
    others arts n (TakeRel src) m v (λ frame e. absurd (cc)) (ap (λ (hs : List Heard). version_in hs v) (ap (λ (q : NodeState). q.heard) s.1))
    (link_step arts x n (TakeRel src) o m v k reply there s says)
kept_step arts x n (SendKrel q) o m v k reply there s says =
    others arts n (SendKrel q) m v (λ frame e. absurd (cc))
    (ap (λ (hs : List Heard). version_in hs v) (ap (λ (z : NodeState). z.heard) s.new_is ∙ kept_heard (send_krel_refusal n q s.choice) n _ refl))
    (link_step arts x n (SendKrel q) o m v k reply there s says)
kept_step arts x n (TakeKrel src) o m v k reply there s says =
    others arts n (TakeKrel src) m v (λ frame e. absurd (cc)) (ap (λ (hs : List Heard). version_in hs v) (ap (λ (q : NodeState). q.heard) s.1))
    (link_step arts x n (TakeKrel src) o m v k reply there s says)
kept_step arts x n TakePrio o m v k reply there s says =
    others arts n TakePrio m v (λ frame e. absurd (cc)) (ap (λ (hs : List Heard). version_in hs v) (ap (λ (q : NodeState). q.heard) s.1))
    (link_step arts x n TakePrio o m v k reply there s says)
kept_step arts x n (Publish document) o m v k reply there s says =
    others arts n (Publish document) m v (λ frame e. absurd (cc))
    (ap (λ (q : NodeState). version_of q v) s.1
    ∙ publishing arts n document (λ q told. version_of q v ≡ version_of n v) refl (λ d reads by. refl))
    (link_step arts x n (Publish document) o m v k reply there s says)

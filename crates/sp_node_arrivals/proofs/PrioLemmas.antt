-- What was made ready of a priority message stays so after an acknowledged link number and after other messages: neither changes where it goes, and
-- what is new after them was new before. Each message uses up one id in a place at most.
use Rattle.std.proofs.Common.{◌≡◌, ◌≤◌, ◌^◌, ℕ, zero, suc, ◌+◌, ◌*◌, ◌==◌, nat_lt, Bool, true, false, not, List, [], ◌∷◌, length, map, get_or, set, Option}
use Rattle.std.proofs.Common.{None, Some}
use Rattle.std.proofs.Common.{refl, sym, ap, ◌∙◌, subst, drop, arith, cond}
use Rattle.std.specs.List.{slice_get}
use Rattle.std.proofs.lemmas.List.{length-map}
use Rattle.std.proofs.lemmas.List.Elements.{All-cons, All-head, All-map, All-tail, All-weaker}
use Rattle.std.proofs.lemmas.List.Sums.{sum_by-cons}
use Rattle.std.specs.Prelude.{All, ◌||◌, count_by}
use Rattle.laws_node.proofs.WindowMarks.{seen_stays}
use Rattle.sp_base.proofs.FewLemmas.{drop_first, drop_past, split_is}
use Rattle.sp_base.specs.Few.{split_first}
use Rattle.sp_base.specs.Rows.{first_where, replace_where}
use Rattle.sp_base.specs.declared.id.NodeId.{NodeId}
use Rattle.sp_frame.specs.Views.{as_numbered, as_object}
use Rattle.sp_frame.specs.declared.object.ObjectRef.{ObjectRef}
use Rattle.sp_msg.specs.declared.body.Body.{Body}
use Rattle.sp_msg.specs.declared.body.Body.TheVariants as bodies
use Rattle.sp_msg.specs.declared.kept.Kept.{Kept}
use Rattle.sp_prio.specs.Parcel.{Parcel}
use Rattle.sp_rules.specs.Answers.{prio_answer}
use Rattle.sp_rules.specs.Arts.{Arts}
use Rattle.sp_rules.specs.Handle as rules
use Rattle.sp_rules.specs.Handle.{handle, prio_handled}
use Rattle.sp_rules.specs.Lives.{is_dated}
use Rattle.sp_rules.specs.Parts.{Parts, is_signed}
use Rattle.sp_rules.specs.Pieces.{PrioPiece}
use Rattle.sp_rules.specs.Prio.{PrioState, acked, admit_prio, heard, is_here, is_peer, is_there, judge_prio, marked, no_peer, peer_in, place_of, places}
use Rattle.sp_rules.specs.Prio.{unheard}
use Rattle.sp_rules.specs.Prio.{window_at, window_in, windows_with}
use Rattle.sp_rules.specs.PrioPeer as rows
use Rattle.sp_rules.specs.PrioPeer.{PrioPeer, goes_to}
use Rattle.sp_rules.specs.Store.{Store, put, removed, said}
use Rattle.sp_rules.specs.Window.{is_seen, with_mark}
use Rattle.sp_rules.specs.declared.answers.PrioAnswer.{PrioAnswer}
use Rattle.sp_rules.specs.declared.answers.PrioAnswer.TheVariants as answers
use Rattle.sp_rules.specs.declared.lives.Life.{Life}
use Rattle.sp_rules.specs.declared.prio.PrioJudged.{PrioJudged}
use Rattle.sp_rules.specs.declared.prio.PrioJudged.TheVariants as prios
use Rattle.sp_node_arrivals.specs.Prio.{ArePriosReady, IsPrioReady}
use Rattle.sp_node_arrivals.specs.Prio.{HasIds, HasRoom, prio_room}

-- ---- a row is replaced by what becomes of it

replaced_count : {X : Type 0} (test p : X → Bool) (f : X → X) (none : X) → ((x : X) → p (f x) ≡ p x) → (xs : List X)
    → count_by p (replace_where test (f (first_where test none xs)) xs) ≡ count_by p xs
replaced_count test p f none alike [] = refl
replaced_count {X} test p f none alike (x ∷ xs) = go (test x) refl (replaced_count test p f none alike xs)
  where
    go : (t : Bool) → test x ≡ t → count_by p (replace_where test (f (first_where test none xs)) xs) ≡ count_by p xs
        → count_by p (cond t (f (cond t x (first_where test none xs)) ∷ xs) (x ∷ replace_where test (f (cond t x (first_where test none xs))) xs))
        ≡ count_by p (x ∷ xs)
    go true is rest =
        sum_by-cons (λ y. cond (p y) 1 0) (f x) xs ∙ ap (λ (b : Bool). cond b 1 0 + count_by p xs) (alike x) ∙ sym (sum_by-cons (λ y. cond (p y) 1 0) x xs)
    go false is rest =
        sum_by-cons (λ y. cond (p y) 1 0) x (replace_where test (f (first_where test none xs)) xs)
        ∙ ap (λ (n : ℕ). cond (p x) 1 0 + n) rest ∙ sym (sum_by-cons (λ y. cond (p y) 1 0) x xs)

replaced_all : {X : Type 0} (P : X → Type 0) (test : X → Bool) (f : X → X) (none : X) → ((x : X) → P x → P (f x)) → (xs : List X) → All P xs
    → All P (replace_where test (f (first_where test none xs)) xs)
replaced_all P test f none keeps [] all = all
replaced_all {X} P test f none keeps (x ∷ xs) all = go (test x) refl (replaced_all P test f none keeps xs (All-tail P x xs all))
  where
    go : (t : Bool) → test x ≡ t → All P (replace_where test (f (first_where test none xs)) xs)
        → All P (cond t (f (cond t x (first_where test none xs)) ∷ xs) (x ∷ replace_where test (f (cond t x (first_where test none xs))) xs))
    go true is rest = All-cons P (f x) xs (keeps x (All-head P x xs all)) (All-tail P x xs all)
    go false is rest = All-cons P x (replace_where test (f (first_where test none xs)) xs) (All-head P x xs all) rest

mapped_count : {X : Type 0} (p : X → Bool) (f : X → X) → ((x : X) → p (f x) ≡ p x) → (xs : List X) → count_by p (map f xs) ≡ count_by p xs
mapped_count p f alike [] = refl
mapped_count p f alike (x ∷ xs) =
    sum_by-cons (λ y. cond (p y) 1 0) (f x) (map f xs) ∙ ap (λ (b : Bool). cond b 1 0 + count_by p (map f xs)) (alike x)
    ∙ ap (λ (n : ℕ). cond (p x) 1 0 + n) (mapped_count p f alike xs) ∙ sym (sum_by-cons (λ y. cond (p y) 1 0) x xs)

mapped_all : {X : Type 0} (P Q : X → Type 0) (f : X → X) → ((x : X) → P x → Q (f x)) → (xs : List X) → All P xs → All Q (map f xs)
mapped_all P Q f keeps xs all = All-map Q f xs (All-weaker P (λ x. Q (f x)) keeps xs all)

replaced_length : {X : Type 0} (test : X → Bool) (y : X) (xs : List X) → length (replace_where test y xs) ≡ length xs
replaced_length test y [] = refl
replaced_length {X} test y (x ∷ xs) = go (test x) (replaced_length test y xs)
  where
    go : (t : Bool) → length (replace_where test y xs) ≡ length xs → length (cond t (y ∷ xs) (x ∷ replace_where test y xs)) ≡ length (x ∷ xs)
    go true rest = refl
    go false rest = ap suc rest

-- ---- what later messages need of the parts before them

-- it goes to as many places, is new where it was new before, and there are as many neighbours
pub record Follows (old new : PrioState) : Type 0 where
  pub places : (body : Body) (came : Option NodeId) → places new body came ≡ places old body came
  pub judged : (body : Body) (now : ℕ) → judge_prio new body now ≡ prios.New → judge_prio old body now ≡ prios.New
  pub peers : length new.peers ≡ length old.peers

pub follows_itself : (s : PrioState) → Follows s s
follows_itself s = record { places = λ body came. refl; judged = λ body now new. new; peers = refl }

pub follows_both : (a b c : PrioState) → Follows a b → Follows b c → Follows a c
follows_both a b c one two = record {
  places = λ body came. two.places body came ∙ one.places body came;
  judged = λ body now new. one.judged body now (two.judged body now new);
  peers = two.peers ∙ one.peers;
}

pub prio_follows : (at : rules.Arrival) (lives : List Life) (old new : PrioState) (o : Kept) (ready : Option Parcel) → Follows old new
    → IsPrioReady at lives old o ready
    → IsPrioReady at lives new o ready
prio_follows at lives old new o None f is = record { parcel = tt; right = λ dated new_is. is.right dated (f.judged o.body at.now new_is) }
prio_follows at lives old new o (Some p) f is = record {
  parcel = is.parcel ∙ ap (λ (n : ℕ). let q : Parcel = record { kept = o; came = Some at.from; copies = n } in q) (sym (f.places o.body (Some at.from)));
  right = λ dated new_is. is.right dated (f.judged o.body at.now new_is);
}

pub prios_follow : (at : rules.Arrival) (lives : List Life) (old new : PrioState) (ms : List (ℕ × Kept)) (readies : List (Option Parcel)) → Follows old new
    → ArePriosReady at lives old ms readies → ArePriosReady at lives new ms readies
prios_follow at lives old new [] readies f are = are
prios_follow at lives old new (m ∷ ms) [] f are = are
prios_follow at lives old new (m ∷ ms) (ready ∷ readies) f are =
    (prio_follows at lives old new m.1 ready f are.0, prios_follow at lives old new ms readies f are.1)

-- the rows of neighbours change no answer
judged_by_peers : (s : PrioState) (peers : List PrioPeer) (body : Body) (now : ℕ) → judge_prio (record s { peers = peers }) body now ≡ prios.New
    → judge_prio s body now ≡ prios.New
judged_by_peers s peers (bodies.Prio p) now new = new
judged_by_peers s peers (bodies.Rel m) now new = new
judged_by_peers s peers (bodies.Ack m) now new = new
judged_by_peers s peers (bodies.Weight m) now new = new
judged_by_peers s peers (bodies.Krel m) now new = new
judged_by_peers s peers (bodies.Kack m) now new = new
judged_by_peers s peers (bodies.Epoch m) now new = new

-- ---- an acknowledged link number

less_last : (s : Store) (pairs : List (ℕ × ℕ)) → (rows.less_all s pairs).last ≡ s.last
less_last s [] = refl
less_last s (pair ∷ pairs) = less_last (removed s pair.1) pairs

pub acked_follows : (s : PrioState) (v number : ℕ) → Follows s (acked s v number)
acked_follows s v number = record {
  places = λ body came. ap (λ (n : ℕ). cond (is_here s body) 1 n)
      (replaced_count (is_peer v) (goes_to body came) (λ q. rows.acked q number) no_peer (λ q. refl) s.peers);
  judged = λ body now new. judged_by_peers s (acked s v number).peers body now new;
  peers = replaced_length (is_peer v) (rows.acked (peer_in s v) number) s.peers;
}

pub acked_ids : (count : ℕ) (s : PrioState) (v number : ℕ) → HasIds count s → HasIds count (acked s v number)
acked_ids count s v number has = record {
  inbox = has.inbox;
  stores = replaced_all (λ q. q.store.last + count ≤ 2 ^ 63) (is_peer v) (λ q. rows.acked q number) no_peer
      (λ q below. omega (arith, below, less_last q.store (rows.landed q number))) s.peers has.stores;
}

-- ---- another life of a neighbour

pub unheard_follows : (s : PrioState) (v : ℕ) → Follows s (unheard s v)
unheard_follows s v = record {
  places = λ body came. ap (λ (n : ℕ). cond (is_here s body) 1 n)
      (replaced_count (is_peer v) (goes_to body came) rows.unheard no_peer (λ q. refl) s.peers);
  judged = λ body now new. judged_by_peers s (unheard s v).peers body now new;
  peers = replaced_length (is_peer v) (rows.unheard (peer_in s v)) s.peers;
}

pub unheard_ids : (count : ℕ) (s : PrioState) (v : ℕ) → HasIds count s → HasIds count (unheard s v)
unheard_ids count s v has = record {
  inbox = has.inbox;
  stores = replaced_all (λ q. q.store.last + count ≤ 2 ^ 63) (is_peer v) rows.unheard no_peer (λ q below. below) s.peers has.stores;
}

-- ---- a message that was heard

heard_follows : (s : PrioState) (v number : ℕ) → Follows s (heard s v number)
heard_follows s v number = record {
  places = λ body came. ap (λ (n : ℕ). cond (is_here s body) 1 n)
      (replaced_count (is_peer v) (goes_to body came) (λ q. rows.heard q number) no_peer (λ q. refl) s.peers);
  judged = λ body now new. judged_by_peers s (heard s v number).peers body now new;
  peers = replaced_length (is_peer v) (rows.heard (peer_in s v) number) s.peers;
}

heard_ids : (count : ℕ) (s : PrioState) (v number : ℕ) → HasIds count s → HasIds count (heard s v number)
heard_ids count s v number has = record {
  inbox = has.inbox;
  stores = replaced_all (λ q. q.store.last + count ≤ 2 ^ 63) (is_peer v) (λ q. rows.heard q number) no_peer (λ q below. below) s.peers has.stores;
}

-- ---- a message that was admitted

-- what is seen stays seen
seen_in : (ws : List (List ℕ)) (i j n q : ℕ) → is_seen (get_or ws j []) q ≡ true → is_seen (get_or (set ws i (with_mark (get_or ws i []) n)) j []) q ≡ true
seen_in [] i j n q seen = seen
seen_in (w ∷ ws) zero zero n q seen = seen_stays w n q seen
seen_in (w ∷ ws) zero (suc j) n q seen = seen
seen_in (w ∷ ws) (suc i) zero n q seen = seen
seen_in (w ∷ ws) (suc i) (suc j) n q seen = seen_in ws i j n q seen

seen_at : (ws : List (List ℕ)) (a b : Option ℕ) (n q : ℕ) → is_seen (window_at ws b) q ≡ true → is_seen (window_at (windows_with ws a n) b) q ≡ true
seen_at ws None b n q seen = seen
seen_at ws (Some i) None n q seen = seen
seen_at ws (Some i) (Some j) n q seen = seen_in ws i j n q seen

-- the answer is new where fewer are seen
still_new : (a b c u v : Bool) → (v ≡ true → u ≡ true) → cond a prios.BadEnd (cond b prios.Expired (cond (c || u) prios.Seen prios.New)) ≡ prios.New
    → cond a prios.BadEnd (cond b prios.Expired (cond (c || v) prios.Seen prios.New)) ≡ prios.New
still_new true b c u v more new = absurd (cc)
still_new false true c u v more new = absurd (cc)
still_new false false true u v more new = absurd (cc)
still_new false false false u false more new = refl
still_new false false false true true more new = absurd (cc)
still_new false false false false true more new = absurd (let e = more refl in cc)

marked_judged : (s : PrioState) (of : Body) (from : Option NodeId) (body : Body) (now : ℕ) → judge_prio (marked s of from) body now ≡ prios.New
    → judge_prio s body now ≡ prios.New
marked_judged s of from (bodies.Prio p) now new =
    still_new (not (is_there s p.src.0) || not (is_there s p.dst.0) || (p.src.0 == p.dst.0)) (nat_lt p.expiry now) (p.src.0 == s.me)
    (is_seen (window_in (marked s of from) p.src.0) p.seq) (is_seen (window_in s p.src.0) p.seq)
    (seen_at s.windows (place_of s.nodes (said (λ p. p.src.0) of)) (place_of s.nodes p.src.0) (said (λ p. p.seq) of) p.seq) new
marked_judged s of from (bodies.Rel m) now new = new
marked_judged s of from (bodies.Ack m) now new = new
marked_judged s of from (bodies.Weight m) now new = new
marked_judged s of from (bodies.Krel m) now new = new
marked_judged s of from (bodies.Kack m) now new = new
marked_judged s of from (bodies.Epoch m) now new = new

given_goes : (body : Body) (came : Option NodeId) (kept : Kept) (from : Option NodeId) (q : PrioPeer)
    → goes_to body came (rows.given kept from q) ≡ goes_to body came q
given_goes body came kept from q = go (goes_to kept.body from q)
  where
    go : (t : Bool) → goes_to body came (cond t (record q { store = put q.store kept }) q) ≡ goes_to body came q
    go true = refl
    go false = refl

given_last : (count : ℕ) (kept : Kept) (from : Option NodeId) (q : PrioPeer) → q.store.last + suc count ≤ 2 ^ 63
    → (rows.given kept from q).store.last + count ≤ 2 ^ 63
given_last count kept from q below = go (goes_to kept.body from q)
  where
    go : (t : Bool) → (cond t (record q { store = put q.store kept }) q).store.last + count ≤ 2 ^ 63
    go true = omega (arith, below)
    go false = omega (arith, below)

admitted_follows : (s : PrioState) (kept : Kept) (from : Option NodeId) → Follows s (admit_prio s kept from)
admitted_follows s kept from = go (is_here s kept.body)
  where
    here : PrioState
    here = record (marked s kept.body from) { inbox = put s.inbox kept }

    there : PrioState
    there = record (marked s kept.body from) { peers = map (rows.given kept from) s.peers }

    judged_here : (body : Body) (now : ℕ) → judge_prio here body now ≡ prios.New → judge_prio s body now ≡ prios.New
    judged_here (bodies.Prio p) now new = marked_judged s kept.body from (bodies.Prio p) now new
    judged_here (bodies.Rel m) now new = new
    judged_here (bodies.Ack m) now new = new
    judged_here (bodies.Weight m) now new = new
    judged_here (bodies.Krel m) now new = new
    judged_here (bodies.Kack m) now new = new
    judged_here (bodies.Epoch m) now new = new

    judged_there : (body : Body) (now : ℕ) → judge_prio there body now ≡ prios.New → judge_prio s body now ≡ prios.New
    judged_there (bodies.Prio p) now new = marked_judged s kept.body from (bodies.Prio p) now new
    judged_there (bodies.Rel m) now new = new
    judged_there (bodies.Ack m) now new = new
    judged_there (bodies.Weight m) now new = new
    judged_there (bodies.Krel m) now new = new
    judged_there (bodies.Kack m) now new = new
    judged_there (bodies.Epoch m) now new = new

    go : (t : Bool) → Follows s (cond t here there)
    go true = record { places = λ body came. refl; judged = judged_here; peers = refl }
    go false = record {
      places = λ body came. ap (λ (n : ℕ). cond (is_here s body) 1 n)
          (mapped_count (goes_to body came) (rows.given kept from) (given_goes body came kept from) s.peers);
      judged = judged_there;
      peers = length-map s.peers (rows.given kept from);
    }

admitted_ids : (count : ℕ) (s : PrioState) (kept : Kept) (from : Option NodeId) → HasIds (suc count) s → HasIds count (admit_prio s kept from)
admitted_ids count s kept from has = go (is_here s kept.body)
  where
    go : (t : Bool) → HasIds count (cond t (record (marked s kept.body from) { inbox = put s.inbox kept })
        (record (marked s kept.body from) { peers = map (rows.given kept from) s.peers }))
    go true = record {
      inbox = omega (arith, has.inbox);
      stores = All-weaker (λ q. q.store.last + suc count ≤ 2 ^ 63) (λ q. q.store.last + count ≤ 2 ^ 63) (λ q below. omega (arith, below)) s.peers has.stores;
    }
    go false = record {
      inbox = omega (arith, has.inbox);
      stores = mapped_all (λ q. q.store.last + suc count ≤ 2 ^ 63) (λ q. q.store.last + count ≤ 2 ^ 63) (rows.given kept from)
          (given_last count kept from) s.peers has.stores;
    }

-- ---- whatever was answered

handled_prio : (P : PrioState → Type 0) (v : NodeId) (answer : PrioAnswer) (number : ℕ) (o : Kept) (p : Parts) → P p.prio → P (heard p.prio v.0 number)
    → P (heard (admit_prio p.prio o (Some v)) v.0 number) → P (prio_handled v answer number o p).parts.prio
handled_prio P v answers.New number o p same was new = new
handled_prio P v answers.Seen number o p same was new = was
handled_prio P v answers.BadEnd number o p same was new = same
handled_prio P v answers.Epoch number o p same was new = same
handled_prio P v answers.Expired number o p same was new = same
handled_prio P v answers.BadSig number o p same was new = same

pub handled_follows : (v : NodeId) (answer : PrioAnswer) (number : ℕ) (o : Kept) (p : Parts) → Follows p.prio (prio_handled v answer number o p).parts.prio
handled_follows v answer number o p =
    handled_prio (λ s. Follows p.prio s) v answer number o p (follows_itself p.prio) (heard_follows p.prio v.0 number)
    (follows_both p.prio (admit_prio p.prio o (Some v)) (heard (admit_prio p.prio o (Some v)) v.0 number) (admitted_follows p.prio o (Some v))
    (heard_follows (admit_prio p.prio o (Some v)) v.0 number))

handled_lives : (v : NodeId) (answer : PrioAnswer) (number : ℕ) (o : Kept) (p : Parts) → (prio_handled v answer number o p).parts.lives ≡ p.lives
handled_lives v answers.New number o p = refl
handled_lives v answers.Seen number o p = refl
handled_lives v answers.BadEnd number o p = refl
handled_lives v answers.Epoch number o p = refl
handled_lives v answers.Expired number o p = refl
handled_lives v answers.BadSig number o p = refl

fewer_ids : (count : ℕ) (s : PrioState) → HasIds (suc count) s → HasIds count s
fewer_ids count s has = record {
  inbox = omega (arith, has.inbox);
  stores = All-weaker (λ q. q.store.last + suc count ≤ 2 ^ 63) (λ q. q.store.last + count ≤ 2 ^ 63) (λ q below. omega (arith, below)) s.peers has.stores;
}

pub handled_ids : (count : ℕ) (v : NodeId) (answer : PrioAnswer) (number : ℕ) (o : Kept) (p : Parts) → HasIds (suc count) p.prio
    → HasIds count (prio_handled v answer number o p).parts.prio
handled_ids count v answer number o p has =
    let fewer = fewer_ids count p.prio has in
    handled_prio (HasIds count) v answer number o p fewer (heard_ids count p.prio v.0 number fewer)
    (heard_ids count (admit_prio p.prio o (Some v)) v.0 number (admitted_ids count p.prio o (Some v) has))

-- ---- one message after another

-- where nothing more is ready, no message is left
pub none_ready : (at : rules.Arrival) (lives : List Life) (s : PrioState) (ms : List (ℕ × Kept)) (readies : List (Option Parcel)) → split_first readies ≡ None
    → ArePriosReady at lives s ms readies → ms ≡ []
none_ready at lives s [] readies split are = refl
none_ready at lives s (m ∷ ms) [] split are = absurd are
none_ready at lives s (m ∷ ms) (ready ∷ readies) split are = absurd (cc)

-- where something is, a message is there
pub never_past : (at : rules.Arrival) (lives : List Life) (s : PrioState) (prios : List (ℕ × ObjectRef)) (place : ℕ)
    (readies others : List (Option Parcel)) (first : Option Parcel)
    → slice_get prios place ≡ None → split_first readies ≡ Some (first, others) → ArePriosReady at lives s (map as_numbered (drop place prios)) readies → ⊥
never_past at lives s prios place readies others first none split are =
    let is : readies ≡ first ∷ others = split_is readies first others split in
    let left : readies ≡ [] = subst (λ (ps : List (ℕ × ObjectRef)). ArePriosReady at lives s (map as_numbered ps) readies) (drop_past prios place none) are in
    let both : first ∷ others ≡ [] = sym is ∙ left in
    absurd (cc)

-- the first of both, and the others of both
pub ready_in_turn : (at : rules.Arrival) (lives : List Life) (s : PrioState) (prios : List (ℕ × ObjectRef)) (place : ℕ) (x : ℕ × ObjectRef)
    (readies others : List (Option Parcel))
    (first : Option Parcel) → slice_get prios place ≡ Some x → split_first readies ≡ Some (first, others)
    → ArePriosReady at lives s (map as_numbered (drop place prios)) readies
    → IsPrioReady at lives s (as_object x.1) first × ArePriosReady at lives s (map as_numbered (drop (place + 1) prios)) others
ready_in_turn at lives s prios place x readies others first at_place split are =
    subst (λ (rs : List (Option Parcel)). ArePriosReady at lives s (map as_numbered (x ∷ drop (place + 1) prios)) rs) (split_is readies first others split)
    (subst (λ (ps : List (ℕ × ObjectRef)). ArePriosReady at lives s (map as_numbered ps) readies) (drop_first prios place x at_place) are)

-- ---- the room for those after it

pub piece_follows : (arts : Arts) (at : rules.Arrival) (p : Parts) (number : ℕ) (o : Kept) → Follows p.prio (handle arts at p (PrioPiece number o)).parts.prio
piece_follows arts at p number o = handled_follows at.from
    (prio_answer (is_signed arts at.fixed o) (is_dated p.lives o.body) (judge_prio p.prio o.body at.now)) number o p

-- lives stay
pub piece_lives : (arts : Arts) (at : rules.Arrival) (p : Parts) (number : ℕ) (o : Kept) → (handle arts at p (PrioPiece number o)).parts.lives ≡ p.lives
piece_lives arts at p number o =
    handled_lives at.from (prio_answer (is_signed arts at.fixed o) (is_dated p.lives o.body) (judge_prio p.prio o.body at.now)) number o p

pub piece_ids : (arts : Arts) (at : rules.Arrival) (p : Parts) (number : ℕ) (o : Kept) (count : ℕ) → HasIds (suc count) p.prio
    → HasIds count (handle arts at p (PrioPiece number o)).parts.prio
piece_ids arts at p number o count has = handled_ids count at.from
    (prio_answer (is_signed arts at.fixed o) (is_dated p.lives o.body) (judge_prio p.prio o.body at.now)) number o p has

one_less : (n k a b : ℕ) → suc n * k ≤ a → a ≤ b + k → n * k ≤ b
one_less n k a b all one = omega (arith, all, one)

pub room_after : (count : ℕ) (old new : PrioState) (before now : ℕ) → Follows old new → HasIds count new → HasRoom (suc count) old before
    → before ≤ now + prio_room old → HasRoom count new now
room_after count old new before now f ids has used = record {
  ids = ids;
  told = subst (λ (n : ℕ). count * (2 * n + 3) ≤ now) (sym f.peers) (one_less count (prio_room old) before now has.told used);
}

pub both_rooms : (n k a b d : ℕ) → a ≤ b + k → b ≤ d + n * k → a ≤ d + suc n * k
both_rooms n k a b d one others = omega (arith, one, others)

-- what is ready answers as the signature does, since it is asked only where the message may be new
pub prio_answered : (ready right dated : Bool) (judged : PrioJudged) → (dated ≡ true → judged ≡ prios.New → ready ≡ right)
    → prio_answer ready dated judged ≡ prio_answer right dated judged
prio_answered ready right true prios.New same = ap (λ (b : Bool). prio_answer b true prios.New) (same refl refl)
prio_answered ready right false prios.New same = refl
prio_answered ready right dated prios.BadEnd same = refl
prio_answered ready right dated prios.Expired same = refl
prio_answered ready right dated prios.Seen same = refl

-- What the laws on rounds are read by: a run on worlds as states that follow one another, a path by its places, and lists of messages.
use Rattle.laws_progress.proofs.States.{IsRight, numbered, Follow, Follows, IsHop, State, last_state}
use Rattle.laws_runs.specs.Premises.{Carries}
use Rattle.sp_runs.specs.Settings.{SettingFits, Setting, is_correct}
use Rattle.std.specs.Prelude.{IsTrue, slice_get}
use Rattle.std.proofs.Common.{◌≡◌, ◌<◌, ◌≤◌, ℕ, zero, suc, ◌+◌, ◌-◌, List, [], ◌∷◌, ◌++◌, length, drop, Some, None, refl, sym, ap, subst, ◌∙◌, arith}
use Rattle.std.proofs.Common.{append_assoc}
use Rattle.std.proofs.lemmas.List.{append-nil, length-drop, length_push}
use Rattle.std.proofs.lemmas.List.Folds.{list_any-from_Any}
use Rattle.std.proofs.lemmas.Option.{get_or_from_slice_get}
use Rattle.std.proofs.lemmas.Slice.Zip.{length-zip}
use Rattle.sp_base.specs.declared.id.NodeId.{NodeId}
use Rattle.sp_rules.specs.Arts.{Arts}
use Rattle.laws_node.proofs.Tables.{all_get}
use Rattle.sp_graph.specs.Walks.{Joined}
use Rattle.sp_topology.specs.Neighbours.{joins}
use Rattle.sp_runs.specs.Paths.{IsCorrectPath, graph_in, hops}
use Rattle.sp_runs.specs.Runs.{Clean}
use Rattle.sp_runs.specs.Told.{Message, sent, told}
use Rattle.sp_runs.specs.Worlds.{World}
use Rattle.sp_journal.specs.declared.entry.Entry.{Entry}
use Rattle.sp_schedule_events.specs.declared.event.Event.{Event}
use Rattle.laws_runs.specs.Flows.{AreNumbered}
use Rattle.laws_runs.proofs.Determined.{runs_are_determined}
use Rattle.laws_runs.proofs.SignedEvents.{even}
use Rattle.laws_progress.specs.Delivery.{IsDelivered}
use Rattle.laws_progress.proofs.Begins.{begins}
use Rattle.laws_progress.proofs.Facts.{AreHops, AreInner, Goes, Stays, Steps}
use Rattle.laws_progress.proofs.Places.{get_front, get_last, hop_at, nobody}
use Rattle.laws_progress.proofs.Polls.{both_ways, events_are}
use Rattle.laws_progress.proofs.Sweeps.{apart}

-- ---- a run and its beginning, as states

events_on : (arts : Arts) (x : Setting) (all es : List Event) (w y : State arts x all) → Goes (State arts x all) (Follows arts x all) w es y
    → y.events ≡ w.events ++ es
events_on arts x all [] w y Stays = sym (append-nil w.events)
events_on arts x all (e ∷ es) w y (Steps {x = m} step g) =
    events_on arts x all es m y g ∙ ap (λ zs. zs ++ es) (events_are arts x all w m e step) ∙ append_assoc w.events (e ∷ []) es

journal_on : (arts : Arts) (x : Setting) (all es : List Event) (w y : State arts x all) → Goes (State arts x all) (Follows arts x all) w es y
    → (more : List Entry) × (y.journal ≡ w.journal ++ more)
journal_on arts x all [] w y Stays = ([], sym (append-nil w.journal))
journal_on arts x all (e ∷ es) w y (Steps {x = m} (Follow j events journal range turn unforged) g) =
    let rest = journal_on arts x all es m y g in
    (j ∷ rest.0, rest.1 ∙ ap (λ zs. zs ++ rest.0) journal ∙ append_assoc w.journal (j ∷ []) rest.0)

same_front : {X : Type 0} (a b c d : List X) → length a ≡ length b → a ++ c ≡ b ++ d → a ≡ b
same_front [] [] c d long same = refl
same_front [] (y ∷ b) c d long same = absurd (omega (arith, long))
same_front (x ∷ a) [] c d long same = absurd (omega (arith, long))
same_front {X} (x ∷ a) (y ∷ b) c d long same =
    let first : x ≡ y = cc in
    let rest : a ++ c ≡ b ++ d = cc in
    ap (λ z. z ∷ a) first ∙ ap (λ (zs : List X). y ∷ zs) (same_front a b c d (omega (arith, long)) rest)

-- the state at the end of the beginning, from which the other events lead to the last
pub record Split (arts : Arts) (x : Setting) (all : List Event) (es : List Event) (js : List Entry) (w : World) (after : List Event)
    (y : State arts x all) : Type 0 where
  pub mid : State arts x all
  pub events : mid.events ≡ es
  pub journal : mid.journal ≡ js
  pub world : mid.world ≡ w
  pub goes : Goes (State arts x all) (Follows arts x all) mid after y

pub split : (arts : Arts) (x : Setting) → SettingFits arts x → Carries x.topology.format arts
    → (es after : List Event) (js more : List Entry) (w v : World)
    → Clean arts x es js w → (run : Clean arts x (es ++ after) (js ++ more) v)
    → Split arts x (es ++ after) es js w after (last_state arts x (es ++ after) (js ++ more) v run)
split arts x fits reads es after js more w v early run =
    let all = es ++ after in
    let y = last_state arts x all (js ++ more) v run in
    let b = begins arts x all y in
    let is : all ≡ b.events = events_on arts x all b.events b.first y b.goes ∙ ap (λ zs. zs ++ b.events) b.none in
    let p = apart (State arts x all) (Follows arts x all) es after b.first y
    (subst (λ zs. Goes (State arts x all) (Follows arts x all) b.first zs y) (sym is) b.goes) in
    let events : p.mid.events ≡ es = events_on arts x all es b.first p.mid p.first ∙ ap (λ zs. zs ++ es) b.none in
    let tail = journal_on arts x all after p.mid y p.then_ in
    let long = ap (λ (zs : List Event). length zs) events in
    let even_mid = even arts x p.mid.events p.mid.journal p.mid.world p.mid.run in
    let even_w = even arts x es js w early in
    let journal : p.mid.journal ≡ js = same_front p.mid.journal js tail.0 more (omega (arith, long, even_mid, even_w)) (sym tail.1) in
    let here : Clean arts x es js p.mid.world =
    subst (λ zs. Clean arts x es zs p.mid.world) journal (subst (λ zs. Clean arts x zs p.mid.journal p.mid.world) events p.mid.run) in
    record {
      mid = p.mid;
      events = events;
      journal = journal;
      world = runs_are_determined arts x es js p.mid.world w fits reads here early;
      goes = p.then_;
    }

-- ---- a path by its places

-- where its ends stand, and how long it is
pub record Ends (s d : NodeId) (path : List NodeId) : Type 0 where
  pub begins : slice_get path 0 ≡ Some s
  pub ends : slice_get path (hops path) ≡ Some d
  pub some : 1 ≤ hops path
  pub long : length path ≡ suc (hops path)

ends_of : (s d : NodeId) (inner path : List NodeId) → path ≡ s ∷ (inner ++ d ∷ []) → Ends s d path
ends_of s d inner path is =
    let whole = ap (λ (zs : List NodeId). length zs) is in
    let part = length_push inner d in
    let both_long = length-zip path (drop 1 path) in
    let less = length-drop 1 path in
    let last : hops path ≡ suc (length inner) = omega (arith, whole, part, both_long, less) in
    record {
      begins = ap (λ zs. slice_get zs 0) is;
      ends = ap (slice_get path) last ∙ ap (λ zs. slice_get zs (suc (length inner))) is ∙ get_last inner d;
      some = omega (arith, last);
      long = omega (arith, last, whole, part);
    }

pub ends_are : (x : Setting) (s d : NodeId) (path : List NodeId) → IsCorrectPath x s d path → Ends s d path
ends_are x s d path is = ends_of s d is.walks.ends.0 path is.walks.ends.1

pub are_hops : (x : Setting) (s d : NodeId) (path : List NodeId) → IsCorrectPath x s d path → AreHops (IsHop x) path
are_hops x s d path is i u v a b =
    let hop : IsHop x u v = record {
      first = all_get (λ n. IsTrue (is_correct x n)) path i u is.correct a;
      second = all_get (λ n. IsTrue (is_correct x n)) path (suc i) v is.correct b;
      joined = list_any-from_Any (joins u.0 v.0) x.topology.edges (hop_at (λ n m. Joined (graph_in x) (n, m)) path is.walks.joined i u v a b);
    } in
    (hop, both_ways x u v hop)

pub are_inner : (x : Setting) (s d : NodeId) (path : List NodeId) → IsCorrectPath x s d path → AreInner d path (hops path)
are_inner x s d path is i low same =
    let ends = ends_are x s d path is in
    let long = ends.long in
    let end = get_or_from_slice_get path (hops path) d nobody ends.ends in
    is.walks.once i (hops path) nobody low (omega (arith, long)) (same ∙ sym end)

pub is_right : (x : Setting) (s d : NodeId) (path : List NodeId) → IsCorrectPath x s d path → IsRight x (record { src = s; dst = d })
is_right x s d path is =
    let ends = ends_are x s d path is in
    let some = ends.some in
    record {
      from = all_get (λ n. IsTrue (is_correct x n)) path 0 s is.correct ends.begins;
      to = all_get (λ n. IsTrue (is_correct x n)) path (hops path) d is.correct ends.ends;
      different = λ same. are_inner x s d path is 0 (omega (arith, some)) (get_or_from_slice_get path 0 s nobody ends.begins ∙ same);
    }

-- ---- lists of messages

pub told_append : {X : Type 0} (tells : Event × Entry → List X) (es fs : List Event) (js ks : List Entry) → length es ≡ length js
    → told tells (es ++ fs) (js ++ ks) ≡ told tells es js ++ told tells fs ks
told_append tells [] fs [] ks long = refl
told_append tells [] fs (j ∷ js) ks long = absurd (omega (arith, long))
told_append tells (e ∷ es) fs [] ks long = absurd (omega (arith, long))
told_append tells (e ∷ es) fs (j ∷ js) ks long =
    ap (λ zs. tells (e, j) ++ zs) (told_append tells es fs js ks (omega (arith, long)))
    ∙ sym (append_assoc (tells (e, j)) (told tells es js) (told tells fs ks))

there_at : (ms : List Message) (i : ℕ) → i < length ms → (m : Message) × (slice_get ms i ≡ Some m)
there_at [] i low = absurd (omega (arith, low))
there_at (m ∷ ms) zero low = (m, refl)
there_at (m ∷ ms) (suc i) low = there_at ms i (omega (arith, low))

number_at : (after : ℕ) (ms : List Message) (i : ℕ) (m : Message) → AreNumbered after ms → slice_get ms i ≡ Some m → m.0 ≡ after + suc i
number_at after [] i m are at = absurd (let e : None ≡ Some m = at in cc)
number_at after (o ∷ ms) zero m are at = let same : o ≡ m = cc in let number = ap (λ (z : Message). z.0) (sym same) ∙ are.0 in omega (arith, number)
number_at after (o ∷ ms) (suc i) m are at = let rest = number_at (after + 1) ms i m are.1 at in omega (arith, rest)

-- of two lists that begin one list, the longer has what the shorter has
pub is_delivered : (S T D rest : List Message) (q : ℕ) → S ++ T ≡ D ++ rest → AreNumbered 0 D → 1 ≤ q → q ≤ length S → q ≤ length D → IsDelivered S D q
is_delivered S T D rest zero same numbered pos sent long = absurd (omega (arith, pos))
is_delivered S T D rest (suc i) same numbered pos sent long =
    let m = there_at D i (omega (arith, long)) in
    let number : m.0.0 ≡ suc i = let n = number_at 0 D i m.0 numbered m.1 in omega (arith, n) in
    let both_are : Some m.0 ≡ Some (suc i, m.0.1) = ap (λ n. Some (n, m.0.1)) number in
    let source : slice_get S i ≡ slice_get D i =
    sym (get_front S T i (omega (arith, sent))) ∙ ap (λ zs. slice_get zs i) same ∙ get_front D rest i (omega (arith, long)) in
    let place : suc i - 1 ≡ i = omega arith in
    record {
      payload = m.0.1;
      sent = record { number = omega arith; there = ap (slice_get S) place ∙ source ∙ m.1 ∙ both_are };
      delivered = record { number = omega arith; there = ap (slice_get D) place ∙ m.1 ∙ both_are };
    }

-- ---- the laws

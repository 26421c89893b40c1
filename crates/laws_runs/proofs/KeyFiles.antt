-- In a run with epochs each node that runs is started, and has the boot and the bound of its key file.
use Rattle.std.proofs.Common.{◌≡◌, ◌≤◌, ◌+◌, ◌-◌, ℕ, zero, suc, Bool, true, false, cond, eqb, List, [], ◌∷◌, ◌++◌, length, map, replicate, Option, Some, None}
use Rattle.std.proofs.Common.{refl, sym, ap, subst, ◌∙◌, inl, inr, arith}
use Rattle.std.specs.Prelude.{◌==◌, ◌||◌, not, IsTrue, slice_index_or}
use Rattle.std.specs.List.{list_any}
use Rattle.std.proofs.lemmas.Bool.{cases_Bool, eq-eqb, eqb-true, ne_eqb}
use Rattle.std.proofs.lemmas.List.{length-replicate, length_push}
use Rattle.sp_base.specs.declared.id.NodeId.{NodeId}
use Rattle.sp_epoch.specs.Numbers.{IsOneOf, after_more, after_start, next_bound, numbers_at, with_numbers}
use Rattle.sp_epoch.specs.declared.started.Started.{Started}
use Rattle.sp_epoch.proofs.NumberLemmas.{any_numbers, as_many, at_other, at_own}
use Rattle.sp_keystate.specs.States.{first_numbers}
use Rattle.sp_keystate.specs.declared.numbers.Numbers.{Numbers}
use Rattle.sp_rules.specs.Arts.{Arts}
use Rattle.sp_rules.specs.Masks.{greatest_id}
use Rattle.sp_rules.specs.Node.{NodeState, announced, booted, extended}
use Rattle.sp_rules.specs.Parts.{Fixed, nodes_of}
use Rattle.sp_topology.specs.declared.topology.NodeKey.{NodeKey}
use Rattle.sp_runs.specs.Inputs.{acting}
use Rattle.sp_runs.specs.Lives.{IsDown, IsOther, IsStart, is_short, next_start, ready, reserved, reserved_if}
use Rattle.sp_runs.specs.Runs.{InRange, Lives, Move, Moves, Starts, Stays, Turn, Turned}
use Rattle.sp_runs.specs.Settings.{Setting, SettingFits, fixed_at, is_correct, is_node, is_one_of, link_keys, node_at_start, signer_from}
use Rattle.sp_runs.specs.Worlds.{World, at_start, is_me, node_in, with_node, without_node}
use Rattle.sp_journal.specs.declared.entry.Entry.{Entry}
use Rattle.sp_schedule_events.specs.Lives.{is_started, may_act}
use Rattle.sp_schedule_events.specs.declared.event.Event.{Event}
use Rattle.sp_schedule_events.specs.declared.event.Event.TheVariants as events
use Rattle.laws_node.specs.Shapes.{Shape}
use Rattle.laws_node.proofs.Boot.{nodes_hold}
use Rattle.laws_node.proofs.Reliable.{in_range}
use Rattle.laws_node.proofs.Shapes.{shapes_stay}
use Rattle.laws_runs.specs.KeyFiles.{AreNumbers, AreOnce, IsOfFile, KeyFilesStand, KeysStand}
use Rattle.laws_runs.proofs.LifeCases.{Exhausts, LifeCase, Nobody, Starts_now, Stops, life_case}
use Rattle.laws_runs.proofs.Lists.{both}
use Rattle.laws_runs.proofs.Started.{craft_other, more_started, moves_other, still_started}
use Rattle.laws_runs.proofs.Running.{more_found, more_once, there_found, with_once, without_found, without_once}
use Rattle.laws_runs.proofs.Tables.{node_is, node_put, same_node}

-- ---- a node of the topology has a file

within : (u : NodeId) (nodes : List NodeKey) → list_any (λ (m : NodeId). m.0 == u.0) (map (λ n. n.id) nodes) ≡ true → u.0 ≤ greatest_id nodes
within u [] there = absurd (let e : false ≡ true = there in cc)
within u (n ∷ nodes) there = elim (cases_Bool (eqb n.id.0 u.0)) [
  | inl t ↦ let same = eqb-true n.id.0 u.0 t in omega (arith, same)
  | inr t ↦ let rest = within u nodes (rw t at there) in omega (arith, rest)
]

-- a correct node has a key file
pub has_file : (arts : Arts) (x : Setting) (es : List Event) (w : World) (u : NodeId) → SettingFits arts x → IsTrue (is_correct x u) → KeysStand x es w
    → IsOneOf w.keys u
has_file arts x es w u fits correct h =
    let among = (both (is_node x u) (not (is_one_of x.bad u)) correct).0 in
    let node = in_range x.topology.format (nodes_of x.topology) u (nodes_hold x.topology.format x.topology.height 0 x.topology.nodes fits.topology.ranges.nodes)
    among in
    let least = node.0 in
    let most = within u x.topology.nodes among in
    let many = h.many in
    (omega (arith, least), omega (arith, most, many))

-- ---- before the first event

no_file : (n i : ℕ) → slice_index_or (replicate n first_numbers) i first_numbers ≡ first_numbers
no_file zero i = refl
no_file (suc n) zero = refl
no_file (suc n) (suc i) = no_file n i

keys_begin : (x : Setting) → KeysStand x [] (at_start x)
keys_begin x = record {
  many = length-replicate (greatest_id x.topology.nodes) first_numbers;
  numbers = λ u. subst (AreNumbers x.total 0) (sym (no_file (greatest_id x.topology.nodes) (u.0 - 1)))
      (record { serial = omega arith; boot = omega arith; bound = omega arith });
  files = λ on. record {
    nodes = λ u n at. absurd (let none : None ≡ Some n = rw on at at in cc);
    once = rw on tt;
  };
}

-- ---- one event

-- more events
later : (total events : ℕ) (n : Numbers) → AreNumbers total events n → AreNumbers total (events + 1) n
later total events n h = let a = h.serial in let b = h.boot in record { serial = omega (arith, a); boot = omega (arith, b); bound = h.bound }

reserved_numbers : (total events : ℕ) (n : Numbers) → AreNumbers total events n → AreNumbers total (events + 1) (after_more total n)
reserved_numbers total events n h =
    let a = h.serial in let b = h.boot in let c = h.bound in record { serial = omega (arith, a); boot = omega (arith, b); bound = omega arith }

started_numbers : (total events : ℕ) (n : Numbers) → AreNumbers total events n → AreNumbers total (events + 1) (after_start total n)
started_numbers total events n h =
    let a = h.serial in let b = h.boot in let c = h.bound in record { serial = omega (arith, a); boot = omega (arith, b); bound = omega arith }

-- the keys of the world in which the node acts are counted with its event
record ReadyKeys (x : Setting) (es : List Event) (v : World) : Type 0 where
  many : length v.keys ≡ greatest_id x.topology.nodes
  numbers : (u : NodeId) → AreNumbers x.total (length es + 1) (numbers_at v.keys u)
  nodes : x.epochs ≡ true → (u : NodeId) (n : NodeState) → node_in v.nodes u ≡ Some n → IsOfFile x es v u n
  once : x.epochs ≡ true → AreOnce v.nodes

as_it_was : (x : Setting) (es : List Event) (w : World) → KeysStand x es w → ReadyKeys x es w
as_it_was x es w h = record {
  many = h.many;
  numbers = λ u. later x.total (length es) (numbers_at w.keys u) (h.numbers u);
  nodes = λ on. (h.files on).nodes;
  once = λ on. (h.files on).once;
}

ready_keys : (x : Setting) (es : List Event) (w : World) (e : Event) → KeysStand x es w → ReadyKeys x es (ready x w e)
ready_keys x es w e h = go x.epochs refl (node_in w.nodes (acting e)) refl
  where
    more : (b : NodeState) → x.epochs ≡ true → node_in w.nodes (acting e) ≡ Some b → ReadyKeys x es (reserved x w b)
    more b on at =
        let files = h.files on in
        let me : b.fixed.me ≡ acting e = node_is w.nodes (acting e) b at in
        let own = files.nodes (acting e) b at in
        let one : IsOneOf w.keys b.fixed.me = subst (IsOneOf w.keys) (sym me) own.there in
        let new = after_more x.total (numbers_at w.keys b.fixed.me) in
        let many = as_many w.keys b.fixed.me new in
        record {
          many = many ∙ h.many;
          numbers = λ u. any_numbers (AreNumbers x.total (length es + 1)) w.keys b.fixed.me u new one
              (reserved_numbers x.total (length es) (numbers_at w.keys b.fixed.me) (h.numbers b.fixed.me))
              (later x.total (length es) (numbers_at w.keys u) (h.numbers u));
          nodes = λ also u n there. elim (node_put u b.fixed.me (extended b (next_bound x.total (numbers_at w.keys b.fixed.me))) n w.nodes refl there) [
            | inl it ↦
                let same : u.0 ≡ b.fixed.me.0 = ap (λ (v : NodeId). v.0) it.0 in
                let at_u : numbers_at (with_numbers w.keys b.fixed.me new) u ≡ new = at_own w.keys b.fixed.me u new one same in
                let mine : numbers_at w.keys (acting e) ≡ numbers_at w.keys b.fixed.me = ap (numbers_at w.keys) (sym me) in
                record {
                  there = (let a = one.0 in omega (arith, a, same), let a = one.1 in omega (arith, a, same, many));
                  started = ap (is_started es) (same ∙ ap (λ (v : NodeId). v.0) me) ∙ own.started;
                  boot = ap (λ (m : NodeState). m.fixed.boot) it.1 ∙ own.boot ∙ ap (λ (k : Numbers). k.boot) mine ∙ sym (ap (λ (k : Numbers). k.boot) at_u);
                  bound = ap (λ (m : NodeState). m.signer.bound) it.1 ∙ sym (ap (λ (k : Numbers). k.bound) at_u);
                }
            | inr other ↦
                let was = files.nodes u n other.1 in
                let same : numbers_at (with_numbers w.keys b.fixed.me new) u ≡ numbers_at w.keys u =
                at_other w.keys b.fixed.me u new one was.there (λ is. other.0 (same_node u b.fixed.me is)) in
                record {
                  there = (was.there.0, let a = was.there.1 in omega (arith, a, many));
                  started = was.started;
                  boot = was.boot ∙ sym (ap (λ (k : Numbers). k.boot) same);
                  bound = was.bound ∙ sym (ap (λ (k : Numbers). k.bound) same);
                }
          ];
          once = λ also. with_once b.fixed.me (extended b (next_bound x.total (numbers_at w.keys b.fixed.me))) w.nodes refl files.once;
        }

    short : (b : NodeState) → x.epochs ≡ true → node_in w.nodes (acting e) ≡ Some b → (t : Bool) → ReadyKeys x es (cond t (reserved x w b) w)
    short b on at true = more b on at
    short b on at false = as_it_was x es w h

    go : (on : Bool) → x.epochs ≡ on → (found : Option NodeState) → node_in w.nodes (acting e) ≡ found → ReadyKeys x es (cond on (reserved_if x w found) w)
    go false off found at = as_it_was x es w h
    go true on None at = as_it_was x es w h
    go true on (Some b) at = short b on at (is_short b)

-- after reserves each node still runs once
pub ready_once : (x : Setting) (es : List Event) (w : World) (e : Event) → x.epochs ≡ true → KeysStand x es w → AreOnce (ready x w e).nodes
ready_once x es w e on h = (ready_keys x es w e h).once on

-- the same after an event that is no start and no stop, where these nodes run with the keys of before
abbrev NodesStand : Setting → List Event → World → List NodeState → Type 0
NodesStand x es v nodes = ((u : NodeId) (n : NodeState) → node_in nodes u ≡ Some n → IsOfFile x es v u n) × AreOnce nodes

other_event : (x : Setting) (es : List Event) (e : Event) (v new : World) → IsOther e → ReadyKeys x es v → new.keys ≡ v.keys
    → (x.epochs ≡ true → NodesStand x es v new.nodes) → KeysStand x (es ++ e ∷ []) new
other_event x es e v new other h keys stand =
    let more = length_push es e in
    record {
      many = ap (λ (k : List Numbers). length k) keys ∙ h.many;
      numbers = λ u. subst (λ (k : List Numbers). AreNumbers x.total (length (es ++ e ∷ [])) (numbers_at k u)) (sym keys)
          (subst (λ (k : ℕ). AreNumbers x.total k (numbers_at v.keys u)) (sym more) (h.numbers u));
      files = λ on. record {
        nodes = λ u n at.
            let was = (stand on).0 u n at in
            let same : numbers_at new.keys u ≡ numbers_at v.keys u = ap (λ (k : List Numbers). numbers_at k u) keys in
            record {
              there = (was.there.0, let a = was.there.1 in let b = ap (λ (k : List Numbers). length k) keys in omega (arith, a, b));
              started = still_started es e u.0 other was.started;
              boot = was.boot ∙ sym (ap (λ (k : Numbers). k.boot) same);
              bound = was.bound ∙ sym (ap (λ (k : Numbers). k.bound) same);
            };
        once = (stand on).1;
      };
    }

-- a node that moves stays of its file
moved : (arts : Arts) (x : Setting) (es : List Event) (v new : World) (e : Event) (j : Entry) (m : Move arts x v e j new) → ReadyKeys x es v → x.epochs ≡ true
    → NodesStand x es v (with_node v.nodes (acting e) m.after)
moved arts x es v new e j m h on =
    let shape = shapes_stay arts m.node m.input m.output m.after m.step in
    let fixed : m.after.fixed ≡ m.node.fixed = ap (λ (s : Shape). s.fixed) shape in
    let bound : m.after.signer.bound ≡ m.node.signer.bound = ap (λ (s : Shape). s.bound) shape in
    let me : m.after.fixed.me ≡ acting e = ap (λ (f : Fixed). f.me) fixed ∙ node_is v.nodes (acting e) m.node m.is_there in
    let was = h.nodes on (acting e) m.node m.is_there in (
      λ u n at. elim (node_put u (acting e) m.after n v.nodes me at) [
        | inl it ↦
            subst (λ (w : NodeId). IsOfFile x es v w n) (sym it.0)
            (record {
              there = was.there;
              started = was.started;
              boot = ap (λ (k : NodeState). k.fixed.boot) it.1 ∙ ap (λ (f : Fixed). f.boot) fixed ∙ was.boot;
              bound = ap (λ (k : NodeState). k.signer.bound) it.1 ∙ bound ∙ was.bound;
            })
        | inr other ↦ h.nodes on u n other.1
      ],
      with_once (acting e) m.after v.nodes me (h.once on),
    )

-- ---- a start

start_stands : (arts : Arts) (x : Setting) (es : List Event) (old new : World) (u : NodeId) (entry : Entry) → SettingFits arts x → IsTrue (is_correct x u)
    → is_started es u.0 ≡ false → KeysStand x es old → IsStart arts x old u entry new → KeysStand x (es ++ events.Start u ∷ []) new
start_stands arts x es old new u entry fits correct stopped h start =
    let one = has_file arts x es old u fits correct h in
    let after = after_start x.total (numbers_at old.keys u) in
    let many = as_many old.keys u after in
    let at_u = at_own old.keys u u after one refl in
    let n0 = node_at_start arts x u (next_start x old u) in
    let more = length_push es (events.Start u) in
    subst (KeysStand x (es ++ events.Start u ∷ [])) (sym start.world) (record {
      many = many ∙ h.many;
      numbers = λ v. subst (λ (k : ℕ). AreNumbers x.total k (numbers_at (with_numbers old.keys u after) v)) (sym more)
          (any_numbers (AreNumbers x.total (length es + 1)) old.keys u v after one (started_numbers x.total (length es) (numbers_at old.keys u) (h.numbers u))
          (later x.total (length es) (numbers_at old.keys v) (h.numbers v)));
      files = λ on. record {
        nodes = λ v n at. elim (more_found v n n0 old.nodes at) [
          | inl before ↦
              let was = (h.files on).nodes v n before in
              let apart : v.0 ≡ u.0 → ⊥ = λ same. (let wrong : true ≡ false = sym was.started ∙ ap (is_started es) same ∙ stopped in cc) in
              let same : numbers_at (with_numbers old.keys u after) v ≡ numbers_at old.keys v = at_other old.keys u v after one was.there apart in
              record {
                there = (was.there.0, let a = was.there.1 in omega (arith, a, many));
                started = more_started es (events.Start u) v.0 ∙ rw was.started (either_true (eqb u.0 v.0));
                boot = was.boot ∙ sym (ap (λ (k : Numbers). k.boot) same);
                bound = was.bound ∙ sym (ap (λ (k : Numbers). k.bound) same);
              }
          | inr it ↦ of_start v n at it
        ];
        once = more_once n0 old.nodes (h.files on).once (not_running on);
      };
    })
  where
    either_true : (t : Bool) → (t || true) ≡ true
    either_true true = refl
    either_true false = refl

    me_of : (s : Started) → (node_at_start arts x u s).fixed ≡ fixed_at x u s.boot
    me_of s = go x.epochs
      where
        go : (on : Bool) → (cond on (announced arts (booted (fixed_at x u s.boot) (signer_from x u s.index s.bound) (link_keys x u) x.buffer x.store))
            (booted (fixed_at x u s.boot) (signer_from x u s.index s.bound) (link_keys x u) x.buffer x.store)).fixed ≡ fixed_at x u s.boot
        go true = refl
        go false = refl

    bound_of : (s : Started) → (node_at_start arts x u s).signer.bound ≡ s.bound
    bound_of s = go x.epochs
      where
        go : (on : Bool) → (cond on (announced arts (booted (fixed_at x u s.boot) (signer_from x u s.index s.bound) (link_keys x u) x.buffer x.store))
            (booted (fixed_at x u s.boot) (signer_from x u s.index s.bound) (link_keys x u) x.buffer x.store)).signer.bound ≡ s.bound
        go true = refl
        go false = refl

    not_running : x.epochs ≡ true → list_any (is_me (node_at_start arts x u (next_start x old u)).fixed.me) old.nodes ≡ false
    not_running on =
        subst (λ (v : NodeId). list_any (is_me v) old.nodes ≡ false) (sym (ap (λ (f : Fixed). f.me) (me_of (next_start x old u))))
        (elim (cases_Bool (list_any (is_me u) old.nodes)) [
          | inl runs ↦
              let it = there_found u old.nodes runs in
              absurd (let wrong : true ≡ false = sym ((h.files on).nodes u it.0 it.1).started ∙ stopped in cc)
          | inr none ↦ none
        ])

    of_start : (v : NodeId) (n : NodeState) → node_in (old.nodes ++ node_at_start arts x u (next_start x old u) ∷ []) v ≡ Some n
        → (v ≡ (node_at_start arts x u (next_start x old u)).fixed.me) × (n ≡ node_at_start arts x u (next_start x old u))
        → IsOfFile x (es ++ events.Start u ∷ []) (record old {
          keys = with_numbers old.keys u (after_start x.total (numbers_at old.keys u));
          nodes = old.nodes ++ node_at_start arts x u (next_start x old u) ∷ [];
        }) v n
    of_start v n at it =
        let s = next_start x old u in
        let one = has_file arts x es old u fits correct h in
        let after = after_start x.total (numbers_at old.keys u) in
        let many = as_many old.keys u after in
        let same : v.0 ≡ u.0 = ap (λ (w : NodeId). w.0) (it.0 ∙ ap (λ (f : Fixed). f.me) (me_of s)) in
        let at_v = at_own old.keys u v after one same in
        let on_u : eqb u.0 v.0 ≡ true = eq-eqb u.0 v.0 (sym same) in
        record {
          there = (let a = one.0 in omega (arith, a, same), let a = one.1 in omega (arith, a, same, many));
          started = more_started es (events.Start u) v.0 ∙ rw on_u refl;
          boot = ap (λ (k : NodeState). k.fixed.boot) it.1 ∙ ap (λ (f : Fixed). f.boot) (me_of s) ∙ sym (ap (λ (k : Numbers). k.boot) at_v);
          bound = ap (λ (k : NodeState). k.signer.bound) it.1 ∙ bound_of s ∙ sym (ap (λ (k : Numbers). k.bound) at_v);
        }

-- a start that is refused leaves all as it was, but that the node counts as started
exhausted_stands : (x : Setting) (es : List Event) (w : World) (u : NodeId) → KeysStand x es w → KeysStand x (es ++ events.Start u ∷ []) w
exhausted_stands x es w u h =
    let more = length_push es (events.Start u) in
    record {
      many = h.many;
      numbers = λ v. subst (λ (k : ℕ). AreNumbers x.total k (numbers_at w.keys v)) (sym more) (later x.total (length es) (numbers_at w.keys v) (h.numbers v));
      files = λ on. record {
        nodes = λ v n at.
            let was = (h.files on).nodes v n at in
            record {
              there = was.there;
              started = more_started es (events.Start u) v.0 ∙ rw was.started (either (eqb u.0 v.0));
              boot = was.boot;
              bound =
                  was.bound;
            };
        once = (h.files on).once;
      };
    }
  where
    either : (t : Bool) → (t || true) ≡ true
    either true = refl
    either false = refl

-- ---- a stop

stop_stands : (x : Setting) (es : List Event) (v new : World) (u : NodeId) → ReadyKeys x es v → new ≡ record v { nodes = without_node v.nodes u }
    → KeysStand x (es ++ events.Stop u ∷ []) new
stop_stands x es v new u h world =
    let more = length_push es (events.Stop u) in
    subst (KeysStand x (es ++ events.Stop u ∷ [])) (sym world) (record {
      many = h.many;
      numbers = λ w. subst (λ (k : ℕ). AreNumbers x.total k (numbers_at v.keys w)) (sym more) (h.numbers w);
      files = λ on. record {
        nodes = λ w n at.
            let found = without_found w u n v.nodes at (h.once on) in
            let was = h.nodes on w n found.0 in
            let apart : eqb u.0 w.0 ≡ false = ne_eqb u.0 w.0 (λ same. found.1 (sym same)) in
            record { there = was.there; started = more_started es (events.Stop u) w.0 ∙ rw (was.started, apart) refl; boot = was.boot; bound = was.bound };
        once = without_once u v.nodes (h.once on);
      };
    })

-- ---- a turn

-- a node that may start hasn't been started
pub started_before : (x : Setting) (es : List Event) (u : NodeId) → x.epochs ≡ true → may_act x.epochs es (events.Start u) ≡ true → is_started es u.0 ≡ false
started_before x es u on may = go (is_started es u.0) (rw on at may)
  where
    go : (t : Bool) → not t ≡ true → t ≡ false
    go true e = absurd (let f : false ≡ true = e in cc)
    go false e = refl

down_stands : (x : Setting) (es : List Event) (old new : World) (e : Event) (j : Entry) → IsOther e → KeysStand x es old → IsDown old e j new
    → KeysStand x (es ++ e ∷ []) new
down_stands x es old new e j other h down =
    other_event x es e old new other (as_it_was x es old h) (ap (λ (w : World). w.keys) down.world)
    (λ on. (
      λ u n at. (h.files on).nodes u n (subst (λ (w : World). node_in w.nodes u ≡ Some n) down.world at),
      subst (λ (w : World). AreOnce w.nodes) (sym down.world) (h.files on).once,
    ))

life_stands : (arts : Arts) (x : Setting) (es : List Event) (old new : World) (e : Event) (j : Entry) → SettingFits arts x → InRange x es e → x.epochs ≡ true
    → KeysStand x es old → LifeCase arts x old e j new → KeysStand x (es ++ e ∷ []) new
life_stands arts x es old new e j fits range on h (Starts_now u is start) =
    let there = subst (InRange x es) is range in
    subst (λ (f : Event). KeysStand x (es ++ f ∷ []) new) (sym is)
    (start_stands arts x es old new u j fits there.fields.0 (started_before x es u on there.may) h start)
life_stands arts x es old new e j fits range on h (Exhausts u is none) =
    subst (λ (f : Event). KeysStand x (es ++ f ∷ []) new) (sym is)
    (subst (KeysStand x (es ++ events.Start u ∷ [])) (sym none.world) (exhausted_stands x es old u h))
life_stands arts x es old new e j fits range on h (Stops u is stop) =
    subst (λ (f : Event). KeysStand x (es ++ f ∷ []) new) (sym is)
    (stop_stands x es (ready x old (events.Stop u)) new u (ready_keys x es old (events.Stop u) h) stop.world)
life_stands arts x es old new e j fits range on h (Nobody other down) = down_stands x es old new e j other h down

turn_stands : (arts : Arts) (x : Setting) (es : List Event) (old new : World) (e : Event) (j : Entry) → SettingFits arts x → InRange x es e → KeysStand x es old
    → Turn arts x old e j new → KeysStand x (es ++ e ∷ []) new
turn_stands arts x es old new e j fits range h (Moves m) =
    let v = ready x old e in
    let keys = ready_keys x es old e h in
    other_event x es e v new (moves_other arts x v m.node e m.input m.reaches) keys (ap (λ (w : World). w.keys) m.world)
    (λ on.
    let stand = moved arts x es v new e j m keys on in
    subst (λ (w : World). NodesStand x es v w.nodes) (sym m.world) stand)
turn_stands arts x es old new e j fits range h (Stays s) =
    other_event x es e old new (craft_other s.key e s.is_craft) (as_it_was x es old h) (ap (λ (w : World). w.keys) s.world)
    (λ on. subst (λ (w : World). NodesStand x es old w.nodes) (sym s.world) ((h.files on).nodes, (h.files on).once))
turn_stands arts x es old new e j fits range h (Lives on life) = life_stands arts x es old new e j fits range on h (life_case arts x old e j new life)

pub key_files_stand : KeyFilesStand
key_files_stand arts x es js w fits Starts = keys_begin x
key_files_stand arts x es js w fits (Turned {es = es'} {js = js'} {old = old} {e = e} {j = j} run range turn unforged) =
    turn_stands arts x es' old w e j fits range (key_files_stand arts x es' js' old fits run) turn

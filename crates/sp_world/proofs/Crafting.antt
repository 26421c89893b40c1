-- What a compromised neighbour crafts is what the rules of runs say: its head, its message with the boots that the node holds, and its signature.
use Rattle.std.proofs.Common.{◌≡◌, ◌≤◌, ◌+◌, ℕ, zero, suc, List, [], ◌∷◌, length, Option, None, Some, Ok, false, refl, sym, ap, ap₂, ◌∙◌, subst, arith, nat_lt}
use Rattle.std.proofs.Common.{true}
use Rattle.std.specs.Prelude.{◌==◌, IsTrue, is_some, position, unwrap_or}
use Rattle.std.proofs.lemmas.Bool.Decides.{nat_tests}
use Rattle.std.proofs.lemmas.Option.{same_Some}
use Rattle.sp_adversary.proofs.Counting.{crafts_are_counted}
use Rattle.sp_adversary.proofs.Holding.{dated_is, section_is}
use Rattle.sp_adversary.specs.Boots.{dated_with, ends_of, held_of, object_with}
use Rattle.sp_adversary.specs.Crafters.{Crafters, crafters_of}
use Rattle.sp_adversary.specs.Crafting.{Crafts, CraftsDocument, HasLength}
use Rattle.sp_adversary.specs.Documents.{administrator_of, version_by}
use Rattle.sp_adversary.specs.Laws.{AnswersCraft, AnswersDocument}
use Rattle.sp_adversary.specs.declared.crafters.Crafted.{Crafted}
use Rattle.sp_adversary.specs.declared.crafters.Crafted.TheVariants as answers
use Rattle.sp_base.specs.declared.id.NodeId.{NodeId}
use Rattle.sp_frame.specs.Sections.{Contents, with_document}
use Rattle.sp_frame.specs.declared.head.Head.{Head}
use Rattle.sp_frame.specs.declared.writing.TheConstants.{MAX_DOCUMENT_BYTES}
use Rattle.sp_hss.specs.KeyTree.{signature_len}
use Rattle.sp_schedule_events.specs.declared.published.Published.{Published}
use Rattle.sp_sign.specs.Heights.{param_of}
use Rattle.sp_topology.specs.Ranges.{IsTopology}
use Rattle.sp_msg.specs.declared.body.Body.{Body}
use Rattle.sp_msg.specs.declared.kept.Kept.{Kept}
use Rattle.sp_node_format.specs.Format.{format_in}
use Rattle.sp_rules.specs.Node.{NodeState, link_in}
use Rattle.sp_rules.specs.Steps.{Datagram}
use Rattle.sp_rules.specs.Topologies.{weights_in}
use Rattle.sp_runs.specs.Inputs.{counter_after, crafted_contents, crafted_document, crafted_frame, crafted_head, dated, input_of, last_weights, may_sign}
use Rattle.sp_runs.specs.Inputs.{sealed_frame}
use Rattle.sp_runs.specs.Runs.{crafted_after}
use Rattle.sp_runs.specs.Scenarios.{document_of, edge_key, setting_of, unsigned_of}
use Rattle.sp_runs.specs.Worlds.{crafts, node_in, with_craft}
use Rattle.sp_schedule_crafts.specs.Objects.{body_of}
use Rattle.sp_schedule_crafts.specs.declared.object.CraftedObject.{CraftedObject}
use Rattle.sp_schedule_events.specs.declared.event.Event.{Event}
use Rattle.sp_schedule_events.specs.declared.event.Event.TheVariants as events
use Rattle.sp_schedule_events.specs.declared.scenario.Scenario.{Scenario}
use Rattle.sp_topology.specs.Neighbours.{joins}
use Rattle.laws_runs_format.specs.Arts.{arts_of}
use Rattle.sp_world.specs.Documents.{CanCraftDocument, CanSign}
use Rattle.sp_world.specs.Scenes.{IsOf, Scene, world_in}
use Rattle.sp_world.specs.Stands.{CanCraft, IsOfFormat, IsSpent}

-- ---- the message

pub said_is : (nodes : List NodeState) (v : NodeId) (m n : NodeState) (object : CraftedObject) (body : Body) → node_in nodes v ≡ Some m
    → node_in nodes v ≡ Some n
    → body ≡ dated_with (held_of m.parts.lives (ends_of (body_of object))) (body_of object) → body ≡ dated n.parts.lives (body_of object)
said_is nodes v m n object body at there is =
    let same : m ≡ n = same_Some m n (sym at ∙ there) in
    is ∙ dated_is m.parts.lives (body_of object) ∙ ap (λ (k : NodeState). dated k.parts.lives (body_of object)) same

-- ---- the head and the key of a crafted frame

pub head_is : (format : ℕ) (nodes : List NodeState) (c v : NodeId) (m n : NodeState) (counter echo version : ℕ) (head : Head) → IsOfFormat format nodes v
    → node_in nodes v ≡ Some m
    → node_in nodes v ≡ Some n
    → counter ≡ (link_in m c).seen.1 → echo ≡ m.fixed.boot → version ≡ m.live.version
    → head ≡ record { from = c; to = v; boot = 1; echo = echo; counter = counter_after counter; topology = version; format = format }
    → head ≡ crafted_head n c
head_is format nodes c v m n counter echo version head first here there seen boot under is =
    let same : first.node ≡ n = same_Some first.node n (sym first.is_there ∙ there) in
    let mine : m ≡ n = same_Some m n (sym here ∙ there) in
    let me : n.fixed.me ≡ v = subst (λ (k : NodeState). k.fixed.me ≡ v) same first.me in
    let echo_is : echo ≡ n.fixed.boot = boot ∙ ap (λ (k : NodeState). k.fixed.boot) mine in
    let seen_is : counter ≡ (link_in n c).seen.1 = seen ∙ ap (λ (k : NodeState). (link_in k c).seen.1) mine in
    let version_is : version ≡ n.live.version = under ∙ ap (λ (k : NodeState). k.live.version) mine in
    let of_format : n.fixed.topology.format ≡ format = subst (λ (k : NodeState). k.fixed.topology.format ≡ format) same first.of_format in
    rw (is, seen_is, echo_is, me, version_is, of_format) refl

-- a frame under the key of the edge is the one that the rules of runs say
pub frame_is : (s : Scenario) (nodes : List NodeState) (c v : NodeId) (n : NodeState) (head : Head) (key bytes : List ℕ) (contents : Contents)
    → CanCraft s nodes c v → node_in nodes v ≡ Some n → head ≡ crafted_head n c
    → ((edge : ℕ) → position (joins c.0 v.0) s.graph.edges ≡ Some edge → key ≡ edge_key s.seed edge)
    → bytes ≡ sealed_frame (format_in head.format) head key contents → bytes ≡ crafted_frame (arts_of (setting_of s)) n c contents
frame_is s nodes c v n head key bytes contents can there head_is key_is is =
    let same : can.first.node ≡ n = same_Some can.first.node n (sym can.first.is_there ∙ there) in
    let keyed : (link_in n c).key ≡ edge_key s.seed can.edge.edge =
    subst (λ (m : NodeState). (link_in m c).key ≡ edge_key s.seed can.edge.edge) same can.keyed in
    let mine : key ≡ (link_in n c).key = key_is can.edge.edge can.edge.joined ∙ sym keyed in
    is ∙ ap₂ (λ (h : Head) (k : List ℕ). sealed_frame (arts_of (setting_of s)) h k contents) head_is mine

-- a report has the boots that the node holds
pub status_is : (s : Scenario) (nodes : List NodeState) (c v : NodeId) (m n : NodeState) (head : Head) (key bytes : List ℕ) (contents : NodeState → Contents)
    → CanCraft s nodes c v → node_in nodes v ≡ Some m → node_in nodes v ≡ Some n → head ≡ crafted_head n c
    → ((edge : ℕ) → position (joins c.0 v.0) s.graph.edges ≡ Some edge → key ≡ edge_key s.seed edge)
    → bytes ≡ sealed_frame (format_in head.format) head key (contents m) → bytes ≡ crafted_frame (arts_of (setting_of s)) n c (contents n)
status_is s nodes c v m n head key bytes contents can here there head_are key_are is =
    let mine : m ≡ n = same_Some m n (sym here ∙ there) in
    frame_is s nodes c v n head key bytes (contents n) can there head_are key_are
    (is ∙ ap (λ (k : NodeState). sealed_frame (format_in head.format) head key (contents k)) mine)

-- ---- the crafting signers

-- what a call on them answers, of the world's crafts
pub answers_craft : (s : Scenario) (old : Scene) (key : NodeId) (body : Body) (result : Crafted Kept) (new : Crafters) → IsOf s old
    → Crafts old.crafters key body (Ok result) new → AnswersCraft s old.crafters.keys key body (Ok result) new
answers_craft s old key body result new of done =
    crafts_are_counted.messages s old.crafters.keys key body (Ok result) new (subst (λ (c : Crafters). Crafts c key body (Ok result) new) of done)

pub answers_document : (s : Scenario) (old : Scene) (key : NodeId) (version : ℕ) (weights : List ℕ) (result : Crafted (List ℕ)) (new : Crafters) → IsOf s old
    → 1 ≤ key.0 → CraftsDocument old.crafters key (unsigned_of s version weights) (Ok result) new
    → AnswersDocument s old.crafters.keys key version weights (Ok result) new
answers_document s old key version weights result new of some done =
    crafts_are_counted.documents s old.crafters.keys key version weights (Ok result) new some
    (subst (λ (c : Crafters). CraftsDocument c key (unsigned_of s version weights) (Ok result) new) of done)

pub spent_is : (s : Scenario) (old : Scene) (c v key : NodeId) (object : CraftedObject) (body : Body) (total : ℕ) (new : Crafters) → IsOf s old
    → Crafts old.crafters key body (Ok (answers.Spent total)) new → IsSpent (setting_of s) (world_in old) (events.Craft c v key object) total
spent_is s old c v key object body total new of done =
    let answer = answers_craft s old key body (answers.Spent total) new of done in
    record { key = key; is_craft = refl; spent = answer.0; total_is = answer.1 }

-- one more is counted, or none
pub signed_left : (s : Scenario) (old : Scene) (key : NodeId) (body : Body) (signed : Kept) (new : Crafters) → IsOf s old
    → Crafts old.crafters key body (Ok (answers.Signed signed)) new → new ≡ record old.crafters { keys = with_craft old.crafters.keys key }
signed_left s old key body signed new of done =
    (answers_craft s old key body (answers.Signed signed) new of done).2 ∙ ap (λ (c : Crafters). record c { keys = with_craft old.crafters.keys key }) (sym of)

pub signed_of : (s : Scenario) (old : Scene) (key : NodeId) (body : Body) (signed : Kept) (new : Crafters) → IsOf s old
    → Crafts old.crafters key body (Ok (answers.Signed signed)) new → new ≡ crafters_of s new.keys
signed_of s old key body signed new of done =
    let is = (answers_craft s old key body (answers.Signed signed) new of done).2 in
    is ∙ ap (λ (c : Crafters). crafters_of s c.keys) (sym is)

pub signed_comes : (s : Scenario) (old : Scene) (c v key : NodeId) (object : CraftedObject) (body : Body) (signed : Kept) (new : Crafters) (head : Head)
    (tag_key bytes : List ℕ)
    → CanCraft s old.nodes c v → IsOf s old → Crafts old.crafters key body (Ok (answers.Signed signed)) new
    → ((n : NodeState) → node_in old.nodes v ≡ Some n → body ≡ dated n.parts.lives (body_of object))
    → ((n : NodeState) → node_in old.nodes v ≡ Some n → head ≡ crafted_head n c)
    → ((edge : ℕ) → position (joins c.0 v.0) s.graph.edges ≡ Some edge → tag_key ≡ edge_key s.seed edge)
    → bytes ≡ sealed_frame (format_in head.format) head tag_key (object_with signed.body signed)
    → (n : NodeState) → node_in old.nodes v ≡ Some n
    → input_of (arts_of (setting_of s)) (setting_of s) (world_in old) n (events.Craft c v key object) ≡ Some (Datagram c bytes)
signed_comes s old c v key object body signed new head tag_key bytes can of done said heads keys is n there =
    let x = setting_of s in
    let answer = answers_craft s old key body (answers.Signed signed) new of done in
    let room : nat_lt (crafts old.crafters.keys key) x.total ≡ true = let low = answer.0 in grind (arith, nat_tests, low) in
    let body_is : body ≡ dated n.parts.lives (body_of object) = said n there in
    let signed_is : signed
    ≡ (record { body = body; signature = (arts_of x).sign x.topology.height (x.seed key.0) (crafts old.crafters.keys key) ((arts_of x).spell body) }) =
    answer.1 in
    let contents_are : object_with signed.body signed ≡ crafted_contents (arts_of x) x old.crafters.keys n key (body_of object) =
    ap (λ (o : Kept). object_with o.body o) signed_is
    ∙ ap (λ (b : Body). object_with b
    (record { body = b; signature = (arts_of x).sign x.topology.height (x.seed key.0) (crafts old.crafters.keys key) ((arts_of x).spell b) })) body_is
    ∙ section_is n.parts.lives object _ in
    let made = frame_is s old.nodes c v n head tag_key bytes (object_with signed.body signed) can there (heads n there) keys is in
    rw (room, made, contents_are) refl

-- ---- documents

-- whose key it is
some_key : (key : ℕ) → (key ≡ 0 → ⊥) → 1 ≤ key
some_key zero apart = absurd (apart refl)
some_key (suc key) apart = omega arith

is_own : (key : ℕ) → (key ≡ 0 → ⊥) → (key == 0) ≡ false
is_own key apart = let some = some_key key apart in grind (arith, nat_tests, some)

-- what is asked before
module _ (s : Scenario) (last : Published) (key version : ℕ) (weights : Option (List ℕ)) (can : CanCraftDocument s last key version weights) where
  pub needs_last : weights ≡ None → IsTrue (is_some last.weights)
  needs_last none = go last.weights (λ own. sym (ap (λ (o : Option (List ℕ)). unwrap_or o (unwrap_or last.weights own)) none) ∙ can.is own)
    where
      go : (o : Option (List ℕ)) → ((own : List ℕ) → unwrap_or o own ≡ can.list) → is_some o ≡ true
      go (Some list) each = refl
      go None each = absurd (let wrong : [] ≡ 0 ∷ [] = each [] ∙ sym (each (0 ∷ [])) in cc)

  module _ (list : List ℕ) (made : (own : List ℕ) → list ≡ unwrap_or weights (unwrap_or last.weights own)) where
    same : list ≡ can.list
    same = made [] ∙ can.is []

    pub list_is_written : IsTopology (version_by (administrator_of s) version list)
    list_is_written = subst (λ (ws : List ℕ). IsTopology (version_by (administrator_of s) version ws)) (sym same) can.topology

    pub list_is_signed : key ≡ 0 → CanSign s version list
    list_is_signed his = subst (CanSign s version) (sym same) (can.index his)

    pub signed_is_short : (document : List ℕ) → document ≡ document_of s version list → length document ≤ MAX_DOCUMENT_BYTES
    signed_is_short document is = subst (λ (bs : List ℕ). length bs ≤ MAX_DOCUMENT_BYTES) (sym (is ∙ ap (document_of s version) same)) can.signed

    pub unsigned_is_short : (unsigned : List ℕ) → unsigned ≡ unsigned_of s version list → length unsigned ≤ MAX_DOCUMENT_BYTES
    unsigned_is_short unsigned is =
        let long = ap length (is ∙ ap (unsigned_of s version) same) in
        let room = can.unsigned in
        omega (arith, long, room)

    pub crafted_is_short : (old : Crafters) (unsigned document : List ℕ) → unsigned ≡ unsigned_of s version list → old ≡ crafters_of s old.keys
        → HasLength (length unsigned + signature_len (param_of old.height)) (Ok (answers.Signed document)) → length document ≤ MAX_DOCUMENT_BYTES
    crafted_is_short old unsigned document is of long =
        let bytes = ap length (is ∙ ap (unsigned_of s version) same) in
        let its : signature_len (param_of old.height) ≡ signature_len (param_of s.height) = ap (λ (k : Crafters). signature_len (param_of k.height)) of in
        let room = can.unsigned in
        omega (arith, bytes, its, room, long)

module _ (s : Scenario) (old : Scene) (c v : NodeId) (key version : ℕ) (weights : Option (List ℕ)) where
  abbrev event : Event
  event = events.CraftDocument c v key version weights

  -- the list that is written is that of the rules
  list_is : (can : CanCraftDocument s old.published key version weights) → unwrap_or weights (last_weights (setting_of s) old.published) ≡ can.list
  list_is can = can.is (weights_in s.graph.edges)

  pub same_list : (list : List ℕ) → (can : CanCraftDocument s old.published key version weights)
      → ((own : List ℕ) → list ≡ unwrap_or weights (unwrap_or old.published.weights own)) → list ≡ can.list
  same_list list can made = made [] ∙ can.is []

  -- what comes, where the signer of the key isn't spent
  comes_with : (document : List ℕ) (n : NodeState) (bytes : List ℕ) → may_sign (setting_of s) old.crafters.keys key ≡ true
      → document ≡ crafted_document (arts_of (setting_of s)) (setting_of s) old.crafters.keys key version
      (unwrap_or weights (last_weights (setting_of s) old.published))
      → bytes ≡ crafted_frame (arts_of (setting_of s)) n c (with_document document)
      → input_of (arts_of (setting_of s)) (setting_of s) (world_in old) n event ≡ Some (Datagram c bytes)
  comes_with document n bytes may is made = rw (may, made, is) refl

  pub administrator_comes : (document : List ℕ) (head : Head) (tag_key bytes list : List ℕ) → CanCraft s old.nodes c v
      → CanCraftDocument s old.published key version weights → key ≡ 0
      → ((own : List ℕ) → list ≡ unwrap_or weights (unwrap_or old.published.weights own)) → document ≡ document_of s version list
      → ((n : NodeState) → node_in old.nodes v ≡ Some n → head ≡ crafted_head n c)
      → ((edge : ℕ) → position (joins c.0 v.0) s.graph.edges ≡ Some edge → tag_key ≡ edge_key s.seed edge)
      → bytes ≡ sealed_frame (format_in head.format) head tag_key (with_document document)
      → (n : NodeState) → node_in old.nodes v ≡ Some n
      → input_of (arts_of (setting_of s)) (setting_of s) (world_in old) n event ≡ Some (Datagram c bytes)
  administrator_comes document head tag_key bytes list can says his made written heads keys is n there =
      let lists = made (weights_in s.graph.edges) in
      comes_with document n bytes (rw his refl) (written ∙ rw (his, lists) refl)
      (frame_is s old.nodes c v n head tag_key bytes (with_document document) can there (heads n there) keys is)

  -- none is counted
  pub administrator_left : key ≡ 0 → crafted_after old.crafters.keys event ≡ old.crafters.keys
  administrator_left his = rw his refl

  module _ (apart : key ≡ 0 → ⊥) where
    abbrev its_key : NodeId
    its_key = record { 0 = key }

    pub node_left : (list unsigned document : List ℕ) (new : Crafters) → IsOf s old → unsigned ≡ unsigned_of s version list
        → CraftsDocument old.crafters its_key unsigned (Ok (answers.Signed document)) new
        → new ≡ record old.crafters { keys = crafted_after old.crafters.keys event }
    node_left list unsigned document new of is done =
        let own = is_own key apart in
        let answer = answers_document s old its_key version list (answers.Signed document) new of (some_key key apart)
        (subst (λ (bs : List ℕ). CraftsDocument old.crafters its_key bs (Ok (answers.Signed document)) new) is done) in
        rw own (answer.2 ∙ ap (λ (c : Crafters). record c { keys = with_craft old.crafters.keys its_key }) (sym of))

    pub node_of : (list unsigned document : List ℕ) (new : Crafters) → IsOf s old → unsigned ≡ unsigned_of s version list
        → CraftsDocument old.crafters its_key unsigned (Ok (answers.Signed document)) new → new ≡ crafters_of s new.keys
    node_of list unsigned document new of is done =
        let answer = answers_document s old its_key version list (answers.Signed document) new of (some_key key apart)
        (subst (λ (bs : List ℕ). CraftsDocument old.crafters its_key bs (Ok (answers.Signed document)) new) is done) in
        answer.2 ∙ ap (λ (c : Crafters). crafters_of s c.keys) (sym answer.2)

    pub node_spent : (list unsigned : List ℕ) (total : ℕ) (new : Crafters) → IsOf s old → unsigned ≡ unsigned_of s version list
        → CraftsDocument old.crafters its_key unsigned (Ok (answers.Spent total)) new → IsSpent (setting_of s) (world_in old) event total
    node_spent list unsigned total new of is done =
        let answer = answers_document s old its_key version list (answers.Spent total) new of (some_key key apart)
        (subst (λ (bs : List ℕ). CraftsDocument old.crafters its_key bs (Ok (answers.Spent total)) new) is done) in
        record { key = its_key; is_craft = (refl, some_key key apart); spent = answer.0; total_is = answer.1 }

    pub node_comes : (list unsigned document : List ℕ) (new : Crafters) (head : Head) (tag_key bytes : List ℕ) → CanCraft s old.nodes c v → IsOf s old
        → ((own : List ℕ) → list ≡ unwrap_or weights (unwrap_or old.published.weights own)) → unsigned ≡ unsigned_of s version list
        → CraftsDocument old.crafters its_key unsigned (Ok (answers.Signed document)) new
        → ((n : NodeState) → node_in old.nodes v ≡ Some n → head ≡ crafted_head n c)
        → ((edge : ℕ) → position (joins c.0 v.0) s.graph.edges ≡ Some edge → tag_key ≡ edge_key s.seed edge)
        → bytes ≡ sealed_frame (format_in head.format) head tag_key (with_document document)
        → (n : NodeState) → node_in old.nodes v ≡ Some n
        → input_of (arts_of (setting_of s)) (setting_of s) (world_in old) n event ≡ Some (Datagram c bytes)
    node_comes list unsigned document new head tag_key bytes can of made is done heads keys sealed n there =
        let own = is_own key apart in
        let answer = answers_document s old its_key version list (answers.Signed document) new of (some_key key apart)
        (subst (λ (bs : List ℕ). CraftsDocument old.crafters its_key bs (Ok (answers.Signed document)) new) is done) in
        let room : nat_lt (crafts old.crafters.keys its_key) (setting_of s).total ≡ true = let low = answer.0 in grind (arith, nat_tests, low) in
        let lists = made (weights_in s.graph.edges) in
        comes_with document n bytes (rw (own, room) refl)
        (answer.1 ∙ ap (crafted_document (arts_of (setting_of s)) (setting_of s) old.crafters.keys key version) lists)
        (frame_is s old.nodes c v n head tag_key bytes (with_document document) can there (heads n there) keys sealed)

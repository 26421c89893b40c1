use Rattle.std.proofs.Common.{◌≡◌, ◌≤◌, ◌<◌, ℕ, List, [], ◌∷◌, get_or, ◌++◌, length, map, sym, ap, subst, ◌∙◌, arith}
use Rattle.std.specs.Borrow.{Bor}
use Rattle.std.specs.Prelude.{All}
use Rattle.std.specs.Fmt.{decimal}
use Rattle.std.proofs.lemmas.List.{get_or-map, length-map}
use Rattle.std.proofs.lemmas.List.Elements.{All-append, All-cons, All-nil}
use Rattle.sp_base.specs.declared.id.NodeId.{NodeId}
use Rattle.sp_words.proofs.CommaLemmas.{is_path, no_path, one_more}
use Rattle.sp_words.proofs.audit_path.path_of.Goals as goal

-- the piece at a place
at : (pieces : List (Bor (List ℕ))) (place : ℕ) (found : Bor (List ℕ)) → place < length pieces → found ≡ get_or pieces place found
    → found.now ≡ get_or (map (λ w. w.now) pieces) place []
at pieces place found within is = ap (λ (w : Bor (List ℕ)). w.now) is ∙ sym (get_or-map (λ (w : Bor (List ℕ)). w.now) pieces place found [] within)

all_more : (path new : List NodeId) (u : NodeId) → new ≡ path ++ u ∷ [] → u.0 ≤ 255 → All (λ v. v.0 ≤ 255) path → All (λ v. v.0 ≤ 255) new
all_more path new u is few all =
    let P : NodeId → Type 0 = λ v. v.0 ≤ 255 in
    subst (λ (xs : List NodeId). All P xs) (sym is) (All-append P path (u ∷ []) all (All-cons P u [] few (All-nil P)))

pub pieces-preserved : goal.pieces-preserved
pieces-preserved c =
    let ps = c.in_ok-pieces.pieces.items in
    let texts : List (List ℕ) = map (λ (w : Bor (List ℕ)). w.now) ps in
    let within : c.pieces.place < length ps = omega arith in
    record {
      written = ap (λ (xs : List NodeId). map (λ (v : NodeId). decimal v.0) xs) c.in_ok-push-in-Some.ensures.items
          ∙ one_more texts c.pieces.path.items c.in-Some.id c.index.result.now.now c.pieces.place (omega (arith, length-map ps (λ (w : Bor (List ℕ)). w.now)))
          (at ps c.pieces.place c.index.result.now within c.index.ensures) c.in-Some.ensures.0 c.pieces.invariant.written;
      range = all_more c.pieces.path.items c.push.new.items.items c.in-Some.id c.in_ok-push-in-Some.ensures.items c.in-Some.ensures.2 c.pieces.invariant.range;
    }

pub returns-in-None : goal.returns-in-None
returns-in-None c = λ path is.
    let ps = c.in_ok-pieces.pieces.items in
    let within : c.pieces.place < length ps = omega arith in
    no_path c.args.word.now (map (λ (w : Bor (List ℕ)). w.now) ps) c.pieces.place path.items c.in_ok-pieces.ensures
    (omega (arith, length-map ps (λ (w : Bor (List ℕ)). w.now)))
    (λ (u : NodeId) right. c.in-None.ensures u (rw (at ps c.pieces.place c.index.result.now within c.index.ensures) right)) is

pub returns : goal.returns
returns c =
    let ps = c.in_ok-pieces.pieces.items in
    let end : c.pieces.place ≡ length (map (λ (w : Bor (List ℕ)). w.now) ps) = omega (arith, length-map ps (λ (w : Bor (List ℕ)). w.now)) in
    is_path c.args.word.now (map (λ (w : Bor (List ℕ)). w.now) ps) c.pieces.path.items c.in_ok-pieces.ensures
    (rw (← end) c.pieces.invariant.written) c.pieces.invariant.range

-- Two numbers that are one are no two ends.
use Rattle.std.proofs.Common.{◌≡◌, ◌≤◌, ℕ, Some, sym, ap, ◌∙◌, arith}
use Rattle.std.specs.Fmt.{decimal}
use Rattle.clap.specs.Walk.{Text}
use Rattle.sp_base.specs.declared.id.NodeId.{NodeId}
use Rattle.sp_text.proofs.FieldLemmas.{one_number}
use Rattle.sp_words.specs.CommandLines.{IsPathsQuery, paths_texts}
use Rattle.sp_words.specs.Parse.{Texts}
use Rattle.sp_words.specs.declared.command_line.PathsQuery.{PathsQuery}

some_text : (a b : Text) → Some a ≡ Some b → a ≡ b
some_text a b is = cc

-- texts with one number twice are of no query
pub not_apart : (t : Texts) (from to : Text) (f g : NodeId) → t.from ≡ Some from → t.to ≡ Some to → (from ≡ decimal f.0) × (0 ≤ f.0) × (f.0 ≤ 255)
    → (to ≡ decimal g.0) × (0 ≤ g.0) × (g.0 ≤ 255) → f.0 ≡ g.0 → (q : PathsQuery) → IsPathsQuery q × (t ≡ paths_texts q) → ⊥
not_apart t from to f g has_from has_to is_from is_to same q right =
    let id : ℕ → NodeId = λ n. record { 0 = n } in
    let from_is : from ≡ decimal q.from.0 = some_text from (decimal q.from.0) (sym has_from ∙ ap (λ (x : Texts). x.from) right.1) in
    let to_is : to ≡ decimal q.to.0 = some_text to (decimal q.to.0) (sym has_to ∙ ap (λ (x : Texts). x.to) right.1) in
    let first : q.from.0 ≡ f.0 = one_number from q.from.0 f.0 (let few = right.0.from in omega arith) (omega (arith, is_from.2)) from_is is_from.0 in
    let second : g.0 ≡ q.to.0 = one_number to g.0 q.to.0 (omega (arith, is_to.2)) (let few = right.0.to in omega arith) is_to.0 to_is in
    right.0.apart (ap id (first ∙ same ∙ second))

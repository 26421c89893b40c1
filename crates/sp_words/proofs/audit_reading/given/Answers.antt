use Rattle.std.proofs.Common.{◌≡◌, List, [], refl, true, ◌∙◌, sym, ap, map, string_bytes, subst, inl, inr, Result, Ok, Err}
use Rattle.std.proofs.Math.Path.{fun_ext}
use Rattle.clap.specs.Kinds.{HasKind, Kinds}
use Rattle.clap.specs.Simple.{App, app_of, matches_of, is_simple}
use Rattle.clap.specs.Faults.{fault_of, is_simple_and_free}
use Rattle.clap.specs.Matches.{first_value, found_of}
use Rattle.clap.specs.Walk.{Row, first_of, rows_of}
use Rattle.clap.specs.declared.parser.matches.Found.{Found}
use Rattle.clap.proofs.WalkLemmas.{first_value-rows}
use Rattle.sp_words.specs.AuditParse.{audit_app, audit_texts_by}
use Rattle.sp_words.specs.declared.audit_given.AuditGiven.{AuditGiven}
use Rattle.sp_words.specs.declared.refused.WordsRefused.{WordsRefused}
use Rattle.sp_words.proofs.audit_reading.given.Goals as goal

free : is_simple_and_free audit_app ≡ true
free = refl

simple : is_simple audit_app ≡ true
simple = refl

-- what is found by each name is what the rows have under it
by_rows : (f : Found) (rows : List Row) → rows_of f ≡ rows → audit_texts_by (first_value f) ≡ audit_texts_by (λ name. first_of name rows)
by_rows f rows is = ap audit_texts_by (fun_ext (λ name. first_value-rows f name ∙ ap (first_of name) is))

pub returns-in-Ok-try_get_matches_from-clause-given : goal.returns-in-Ok-try_get_matches_from-clause-given
returns-in-Ok-try_get_matches_from-clause-given c =
    let words = map string_bytes c.args.words.now in
    let rows = (c.in-Ok-try_get_matches_from.ensures.matches (ap is_simple c.in-Ok.ensures ∙ simple)).0 in
    record {
      parsed = ap (λ (a : App). fault_of a words) (sym c.in-Ok.ensures)
          ∙ c.in-Ok-try_get_matches_from.ensures.kinds (ap is_simple_and_free c.in-Ok.ensures ∙ free);
      texts_are = c.given_in.ensures
          ∙ by_rows (found_of c.in-Ok-try_get_matches_from.matches) (matches_of audit_app words) (rows ∙ ap (λ (a : App). matches_of a words) c.in-Ok.ensures);
    }

same_refusal : (a b : WordsRefused) → (let r : Result AuditGiven WordsRefused = Err a in r ≡ Err b) → a ≡ b
same_refusal a b is = ap (λ (r : Result AuditGiven WordsRefused). elim r [ Ok g ↦ a | Err e ↦ e ]) is

pub returns-in-Err-clause-usage : goal.returns-in-Err-clause-usage
returns-in-Err-clause-usage c = λ usage g gives.
    let words = map string_bytes c.args.words.now in
    let free_here = ap is_simple_and_free c.in-Ok.ensures ∙ free in
    let none : fault_of (app_of c.in-Ok.command) words ≡ [] = ap (λ (a : App). fault_of a words) c.in-Ok.ensures ∙ gives.parsed in
    let kinds : HasKind [] c.in-Err.e = subst (λ (ks : Kinds). HasKind ks c.in-Err.e) none (c.in-Err.ensures.kinds free_here) in
    elim kinds [ inl memory ↦ c.refused.ensures (same_refusal _ _ usage) memory | inr among ↦ among ]

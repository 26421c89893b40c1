-- What words say that are no command, or a command line without a command.
use Rattle.std.proofs.Common.{◌≡◌, ℕ, List, Some, None, sym, ap, ◌∙◌, subst}
use Rattle.sp_client.specs.Requests.{IsRequest}
use Rattle.sp_client.specs.declared.request.Request.{Request}
use Rattle.sp_words.specs.CommandLines.{IsCommandLine, texts_for}
use Rattle.sp_words.specs.Parse.{Texts}
use Rattle.sp_words.specs.declared.command_line.Ask.{Ask}
use Rattle.sp_words.specs.declared.command_line.CommandLine.{CommandLine}
use Rattle.sp_words.specs.declared.command_line.CommandLine.TheVariants as lines
use Rattle.sp_top.specs.Commands.{IsMeant, Says}
use Rattle.sp_top.specs.declared.command.Command.{Command}

pub no_line : (words : List (List ℕ)) → ((line : CommandLine) → IsCommandLine words line → ⊥) → Says words None
no_line words none command are = none are.line are.said

-- two command lines of the same words give the same texts
one_text : (words : List (List ℕ)) (a b : CommandLine) → IsCommandLine words a → IsCommandLine words b → texts_for a ≡ texts_for b
one_text words a b p q = sym p.of_line.are ∙ p.given.texts_are ∙ sym q.given.texts_are ∙ q.of_line.are

-- whatever asks the same has the same request
is_no_request : (request : List ℕ) (line : CommandLine) (command : Command) → ((r : Request) → IsRequest request r → ⊥)
    → Some request ≡ (texts_for line).request
    → IsMeant line command → ⊥
is_no_request request lines.Replay command none same meant = cc
is_no_request request lines.Topology command none same meant = cc
is_no_request request lines.Format command none same meant = cc
is_no_request request lines.Verify command none same meant = cc
is_no_request request (lines.Paths q) command none same meant = cc
is_no_request request (lines.Generate seed) command none same meant = cc
is_no_request request (lines.Daemon turns) command none same meant = cc
is_no_request request (lines.Ask a) command none same meant =
    let text : request ≡ a.request.now = cc in
    none meant.1.0 (subst (λ (t : List ℕ). IsRequest t meant.1.0) (sym text) meant.1.1)

pub of_no_request : (words : List (List ℕ)) (a : Ask) → IsCommandLine words (lines.Ask a) → ((r : Request) → IsRequest a.request.now r → ⊥) → Says words None
of_no_request words a said none command are =
    is_no_request a.request.now are.line command none (ap (λ (t : Texts). t.request) (one_text words (lines.Ask a) are.line said are.said)) are.meant

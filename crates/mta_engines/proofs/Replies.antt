-- The answers to lines, one line more.
use Rattle.std.proofs.Common.{◌≡◌, ℕ, List, [], ◌∷◌, ◌++◌, refl, ap, sym, ◌∙◌, append_assoc, append-nil, subst}
use Rattle.debug_commands.specs.Commands.{command_of}
use Rattle.replay_debugger.specs.Sessions.{SessionValue}
use Rattle.mta_engines.specs.DebugOutput.{IsReply, AreReplies}

pub replies-more : (old mid new : SessionValue) (lines : List (List ℕ)) (line text more : List ℕ)
    → AreReplies old lines text mid → IsReply mid (command_of line) more new
    → AreReplies old (lines ++ line ∷ []) (text ++ more) new
replies-more old mid new [] line text more so_far reply = (
  more,
  [],
  new,
  subst (λ s. IsReply s (command_of line) more new) so_far.1 reply,
  (refl, refl),
  ap (λ t. t ++ more) so_far.0 ∙ sym (append-nil more),
)
replies-more old mid new (first ∷ lines) line text more so_far reply = (
  so_far.0,
  so_far.1 ++ more,
  so_far.2,
  so_far.3,
  replies-more so_far.2 mid new lines line so_far.1 more so_far.4 reply,
  ap (λ t. t ++ more) so_far.5 ∙ append_assoc so_far.0 so_far.1 more,
)

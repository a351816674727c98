use Rattle.std.proofs.Common.{◌≡◌, ◌∙◌, ap, ap₂, true}
use Rattle.std.proofs.lemmas.Result.{IfOk-weaker}
use Rattle.clap.specs.Words.{App, with_subcommand}
use Rattle.clap.specs.Simple.{Shape, app_of_fields, on_top}
use Rattle.clap.specs.declared.builder.command.Command.{Command}
use Rattle.clap.specs.declared.builder.command.Command.TheOpen.{Command-F}
use Rattle.command_line.proofs.reading.tool_parser.Goals as goal

abbrev requiring : Command-F Command → Command-F Command
requiring f = record f { subcommand_required = true }

abbrev versioned : Shape → Shape
versioned s = record s { has_version = true; subcommand_required = true }

pub returns : goal.returns
returns c =
    let bare = ap app_of_fields c.subcommand_required.ensures
    ∙ ap (λ (f : Command-F Command). app_of_fields (requiring f)) c.version.ensures
    ∙ ap (on_top versioned) c.described.ensures.app in
    let words = c.in_ok-subcommand.ensures.shape c.words_parser.ensures.local
    ∙ ap₂ with_subcommand bare (ap (λ (a : App). a.top) c.words_parser.ensures.app) in
    let asm = c.in_ok-subcommand-2.ensures.shape c.in_ok-asm_parser.ensures.local
    ∙ ap₂ with_subcommand words (ap (λ (a : App). a.top) c.in_ok-asm_parser.ensures.app) in
    let list = c.in_ok-subcommand-3.ensures.shape c.in_ok-list_parser.ensures.local
    ∙ ap₂ with_subcommand asm (ap (λ (a : App). a.top) c.in_ok-list_parser.ensures.app) in
    let run = c.in_ok-subcommand-4.ensures.shape c.in_ok-run_parser.ensures.local
    ∙ ap₂ with_subcommand list (ap (λ (a : App). a.top) c.in_ok-run_parser.ensures.app) in
    let threads = c.in_ok-subcommand-5.ensures.shape c.in_ok-threads_parser.ensures.local
    ∙ ap₂ with_subcommand run (ap (λ (a : App). a.top) c.in_ok-threads_parser.ensures.app) in
    IfOk-weaker c.subcommand-6.result _ _ (λ command added. added.shape c.in_ok-debug_parser.ensures.local
    ∙ ap₂ with_subcommand threads (ap (λ (a : App). a.top) c.in_ok-debug_parser.ensures.app)) c.subcommand-6.ensures

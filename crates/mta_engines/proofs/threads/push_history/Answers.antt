use Rattle.std.proofs.Common.{ℕ, ◌++◌, List, string_bytes}
use Rattle.mta_engines.specs.ThreadsOutput.{history_text}
use Rattle.mta_engines.proofs.Histories.{history_step, history_end}
use Rattle.mta_engines.proofs.threads.push_history.Goals as goal

pub loop-index-preserved : goal.loop-index-preserved
loop-index-preserved c =
    let es = c.args.history.now in
    let i = c.loop-index.index in
    let text : List ℕ = string_bytes c.loop-index.text in
    let all : List ℕ = string_bytes c.args.text.now ++ history_text 1 es in
    history_step c.index-history-index.result es i text (string_bytes c.push_history_line.new.text) all
    c.loop-index-test.true c.index-history-index.is
    c.in_ok-push_history_line.ensures c.loop-index.invariant

pub returns : goal.returns
returns c =
    history_end _ c.loop-index.index c.args.history.now (string_bytes c.loop-index.text)
    (string_bytes c.args.text.now ++ history_text 1 c.args.history.now) c.loop-index-test.false c.loop-index.invariant

-- What `==` of the parts of ends tells: that they are equal.
use Rattle.std.proofs.Common.{◌≡◌, sym, ap, ◌∙◌}
use Rattle.std.specs.Bool.{Decides}
use Rattle.std.proofs.lemmas.Bool.Decides.{Decides-and, Decides-eqb, Decides-like}
use denote.Enum.Bare.{sameb, same_true, true_same}
use Rattle.tag_memory.specs.Cell.{Cell, cell_of, tag_number}
use Rattle.tag_memory.specs.contracts.tagged_word.WordPartialEq.TheImpl as word
use Rattle.image_file.specs.SameLaws.{cell_of-tag_number}
use Rattle.stream_core.specs.declared.traps.TrapKind.{TrapKind}
use Rattle.stream_core.specs.contracts.traps.TrapKind as trap
use Rattle.processor.specs.declared.steps.Step.{Step}
use Rattle.processor.specs.contracts.steps.StepPartialEq.TheImpl as step
use Rattle.changed_words.specs.declared.changed.ChangedWord.{ChangedWord}
use Rattle.changed_words.specs.contracts.changed.ChangedWordPartialEq.TheImpl as changed_word
use Rattle.end_states.specs.declared.states.TrapStop.{TrapStop}
use Rattle.end_states.specs.declared.states.WaitingStream.{WaitingStream}
use Rattle.end_states.specs.contracts.states.TrapStopPartialEq.TheImpl as trap_stop
use Rattle.end_states.specs.contracts.states.WaitingStreamPartialEq.TheImpl as waiting_stream

Decides-word : (x y : Cell) → Decides (word.eq-value.it x y) (x ≡ y)
Decides-word x y =
    Decides-like (word.eq-value.it x y)
    (λ p. sym (cell_of-tag_number x) ∙ (λ i. cell_of (p.0 i) (p.1 i)) ∙ cell_of-tag_number y)
    (λ e. (ap (λ (c : Cell). c.value) e, ap tag_number e))
    (Decides-and _ _ (Decides-eqb x.value y.value) (Decides-eqb (tag_number x) (tag_number y)))

pub Decides-changed_word : (x y : ChangedWord) → Decides (changed_word.eq-value.it x y) (x ≡ y)
Decides-changed_word x y =
    Decides-like (changed_word.eq-value.it x y)
    (λ p. λ i. record { address = p.0 i; before = p.1.0 i; after = p.1.1 i })
    (λ e. (λ i. (e i).address, (λ i. (e i).before, λ i. (e i).after)))
    (Decides-and _ _ (Decides-eqb x.address y.address)
    (Decides-and _ _ (Decides-word x.before y.before) (Decides-word x.after y.after)))

Decides-step : (x y : Step) → Decides (step.eq-value.it x y) (x ≡ y)
Decides-step x y =
    Decides-like (step.eq-value.it x y) (λ q. λ i. record { p = q.0 i; s = q.1 i })
    (λ e. (λ i. (e i).p, λ i. (e i).s))
    (Decides-and _ _ (Decides-eqb x.p y.p) (Decides-eqb x.s y.s))

Decides-trap : (x y : TrapKind) → Decides (sameb trap.the_type x y) (x ≡ y)
Decides-trap x y = (same_true trap.the_type tt x y, true_same trap.the_type x y)

pub Decides-trap_stop : (x y : TrapStop) → Decides (trap_stop.eq-value.it x y) (x ≡ y)
Decides-trap_stop x y =
    Decides-like (trap_stop.eq-value.it x y) (λ p. λ i. record { stream = p.0 i; trap = p.1 i })
    (λ e. (λ i. (e i).stream, λ i. (e i).trap))
    (Decides-and _ _ (Decides-step x.stream y.stream) (Decides-trap x.trap y.trap))

pub Decides-waiting_stream : (x y : WaitingStream) → Decides (waiting_stream.eq-value.it x y) (x ≡ y)
Decides-waiting_stream x y =
    Decides-like (waiting_stream.eq-value.it x y) (λ p. λ i. record { stream = p.0 i; address = p.1 i })
    (λ e. (λ i. (e i).stream, λ i. (e i).address))
    (Decides-and _ _ (Decides-step x.stream y.stream) (Decides-eqb x.address y.address))

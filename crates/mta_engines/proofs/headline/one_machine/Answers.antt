use Rattle.std.proofs.Common.{List, ℕ, ap, subst, sym, ◌∙◌}
use Rattle.image_file.specs.ImageValue.{ImageValue}
use Rattle.image_file.specs.Spelling.{Stands}
use Rattle.processor.specs.World.{steps}
use Rattle.processor.specs.declared.steps.Step.{Step}
use Rattle.asm_text.specs.Sources.{Means}
use Rattle.machine.specs.MachineValue.{MachineValue}
use Rattle.replay_debugger.specs.Sessions.{SessionValue, session_world}
use Rattle.mta_engines.proofs.AssembledImage.{assembled_as, means_as}
use Rattle.mta_engines.proofs.headline.one_machine.Goals as goal

pub listed_image-requires : goal.listed_image-requires
listed_image-requires g c =
    let F : List ℕ → Type 0 = λ text. Means text c.args.image.now in
    record { some = (c.args.image.now, subst F (sym c.deref-2.ensures) c.in_ok-listing.ensures.means) }

pub returns : goal.returns
returns g c =
    let image : ImageValue = c.args.image.now in
    let one = c.listings_are_read_back.ensures.one_meaning in
    let one_image = c.image_bytes_laws.ensures.one_image in
    let listing_means = c.in_ok-listing.ensures.means in
    let F : List ℕ → Type 0 = λ bytes. Stands bytes c.in_ok-read.read in
    let G : List ℕ → Type 0 = λ text. Means text c.in_ok-listed.listed in
    let read = subst F c.deref.ensures.value c.in_ok-read.ensures in
    let listed = subst G c.deref-2.ensures c.in_ok-listed.ensures in
    let H : MachineValue → List Step → MachineValue = λ m ts. record m { world = steps m.image m.world ts } in
    let shown_by : SessionValue → MachineValue = λ s. record { image = s.image; world = session_world s } in
    let before = c.in_ok-after.ensures ∙ c.in_ok-loaded.ensures in
    record {
      assembled_is = (
        λ means. assembled_as c.args.text.now image c.in_ok-assembled.assembled c.in_ok-assembled.ensures means,
        λ is. means_as c.args.text.now image c.in_ok-assembled.assembled c.in_ok-assembled.ensures is,
      );
      bytes_are = record {
        stand = c.in_ok-bytes.ensures;
        no_other = λ other stand. one_image c.in_ok-bytes.bytes.items other image stand c.in_ok-bytes.ensures;
      };
      read_is = one_image c.in_ok-bytes.bytes.items c.in_ok-read.read image read c.in_ok-bytes.ensures;
      listing_is = c.in_ok-listing.ensures.is;
      listing_means = listing_means;
      listed_is = one _ c.in_ok-listed.listed image listed listing_means;
      loaded_is = c.in_ok-loaded.ensures;
      after_is = c.run.ensures ∙ (λ i. H (before i) (c.deref-3.ensures.value i));
      session_is = c.in_ok-session.ensures;
      shown_is = c.in_ok-shown.ensures ∙ c.machine.ensures ∙ ap shown_by c.in_ok-session.ensures;
    }

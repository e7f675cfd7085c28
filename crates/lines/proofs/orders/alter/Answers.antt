-- KEEP clears the list; CONF and GET leave the image.
use Rattle.std.proofs.Common.{◌≡◌, ℕ, List, ◌⊎◌, inl, inr, sym, ap, ◌∙◌}
use Rattle.std.specs.Prelude.{Ok}
use Rattle.instrument.specs.declared.settings.Series.{Series}
use Rattle.commands.specs.declared.shapes.Order.{Order}
use Rattle.commands.specs.declared.shapes.Order.TheVariants.{Conf, Get}
use Rattle.state.specs.Image.{image_of, state_in}
use Rattle.state.specs.declared.entries.State.{State}
use Rattle.lines.specs.Orders.{deed_of, done_of}
use Rattle.state.proofs.Images.{image_of_lem}
use Rattle.commands.proofs.Shape.{order_put}
use Rattle.lines.proofs.Altering.{keep_laid}
use Rattle.lines.proofs.orders.alter.Goals as goal

stays : (k : Series) (s : State) (t : List ℕ) (o : Order) → ((x : ℕ) × (o ≡ Conf x)) ⊎ (o ≡ Get) → s ≡ done_of s (deed_of k t (Ok o))
stays k s t o (inl e) = rw e.1
stays k s t o (inr e) = rw e

pub word_of-requires : goal.word_of-requires
word_of-requires c = order_put _ (sym c.requires.1.0 ∙ ap Ok c.in-Put.is)

pub returns-in-Keep : goal.returns-in-Keep
returns-in-Keep c = rw c.in-Keep.is (c.clear.ensures ∙ keep_laid c.requires.0)

pub returns-in-Conf : goal.returns-in-Conf
returns-in-Conf c =
    let a = c.args in
    (image_of_lem a.image.now c.requires.0.is).1 ∙ ap image_of (stays a.series (state_in a.image.now) a.text.now a.order c.in-Conf.is)

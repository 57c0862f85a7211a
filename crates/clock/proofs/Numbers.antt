-- Ports and refusals are told apart by their numbers.
use Rattle.std.proofs.Common.{◌≡◌, ◌<◌, false, eqb, sym, refl, ap, ◌∙◌, arith}
use Rattle.std.proofs.lemmas.Bool.{eqb-false}
use Rattle.clock.specs.declared.ports.Port.{Port}
use Rattle.clock.specs.declared.ports.Port.TheVariants.{P0, P1, P2, P3, P4, P5, P6, P7}
use Rattle.clock.specs.declared.refusals.Refusal.{Refusal}
use Rattle.clock.specs.declared.refusals.Refusal.TheVariants.{NothingLeft, UnwantedKind, TooFewBytes, PortTooHigh, MessageTooHigh, TraceFull, SentBefore, NotSent, ReceivedBefore, NoRoom, RisingEntries, PortsDiffer, NoSuchEvent, CountTooHigh, ListTooShort, NumberTwice}
use Rattle.clock.specs.Ports.{port_number, port_at}
use Rattle.clock.specs.Refusals.{refusal_number}

pub port_back : (p : Port) → port_at (port_number p) ≡ p
port_back P0 = refl
port_back P1 = refl
port_back P2 = refl
port_back P3 = refl
port_back P4 = refl
port_back P5 = refl
port_back P6 = refl
port_back P7 = refl

pub port_same : (p q : Port) → port_number p ≡ port_number q → p ≡ q
port_same p q e = sym (port_back p) ∙ ap port_at e ∙ port_back q

pub port_low : (p : Port) → port_number p < 8
port_low P0 = omega arith
port_low P1 = omega arith
port_low P2 = omega arith
port_low P3 = omega arith
port_low P4 = omega arith
port_low P5 = omega arith
port_low P6 = omega arith
port_low P7 = omega arith

not_zero : (f : Refusal) → eqb (refusal_number f) 0 ≡ false
not_zero NothingLeft = refl
not_zero UnwantedKind = refl
not_zero TooFewBytes = refl
not_zero PortTooHigh = refl
not_zero MessageTooHigh = refl
not_zero TraceFull = refl
not_zero SentBefore = refl
not_zero NotSent = refl
not_zero ReceivedBefore = refl
not_zero NoRoom = refl
not_zero RisingEntries = refl
not_zero PortsDiffer = refl
not_zero NoSuchEvent = refl
not_zero CountTooHigh = refl
not_zero ListTooShort = refl
not_zero NumberTwice = refl

pub refusal_positive : (f : Refusal) → refusal_number f ≡ 0 → ⊥
refusal_positive f h = eqb-false (refusal_number f) 0 (not_zero f) h

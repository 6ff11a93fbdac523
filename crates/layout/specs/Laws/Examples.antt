-- One worked layout: RAM at $4000-$47FF beside PAGE 1 at $4800 (01, Errors we have met before). Two Locutus pages; the RAM
-- stays in view whatever page is asked for, and the pages that no line names have entry 8.
use Rattle.std.specs.Prelude.{◌+◌, List, ◌∷◌, [], ◌≡◌, refl, cond, true, ◌&&◌, ◌||◌, eqb, ltb, leb}
use Rattle.basics.specs.Counts.{all, any, count, nth}
use Rattle.basics.specs.Refusals.{no_refusal}
use Rattle.basics.specs.Tables.{made}
use Rattle.lines.specs.declared.Line.{Line}
use Rattle.lines.specs.declared.Entry.TheVariants.{Paged, Ram}
use Rattle.lines.specs.declared.Width.TheVariants.{Sixteen}
use Rattle.lines.specs.Lines.{holds}
use Rattle.rules.specs.Chapters.{paged, uses, under, bare}
use Rattle.rules.specs.Rules.{refusal_of, touches_silent, plain_shape, page_shape, shares, breaks_plain}
use Rattle.layout.specs.Layout.{pages, flip_entry, mapping_at, permissions_at, covered, used, answering, page_of, flippable, line_held, slot_of_page}

abbrev pub ecs : List Line
ecs =
    record { source = 2; entry = Paged (record { 0 = 0 }) (record { 0 = 0x7FF }) (record { 0 = 0x4800 }) (record { 0 = 1 }) }
    ∷ record { source = 4; entry = Ram (record { 0 = 0x4000 }) (record { 0 = 0x47FF }) Sixteen } ∷ []

pub record Ecs : Type 0 where
  pub accepted : refusal_of 0x800 ecs ≡ no_refusal
  pub pages : pages ecs ≡ 2
  pub entries : all 16 (λ y. eqb (flip_entry ecs 4 y) (cond (eqb y 1) 25 8)) ≡ true
  pub ram : all 8 (λ k. eqb (mapping_at ecs 0 (0x40 + k)) k && eqb (permissions_at ecs 0 (0x40 + k)) 3) ≡ true
  pub page_0 : all 8 (λ k. eqb (mapping_at ecs 0 (0x48 + k)) (8 + k) && eqb (permissions_at ecs 0 (0x48 + k)) 0) ≡ true
  pub page_1 : all 8 (λ k. eqb (mapping_at ecs 1 (0x48 + k)) (24 + k) && eqb (permissions_at ecs 1 (0x48 + k)) 1) ≡ true
  pub covered : all 40 (λ p. eqb (cond (covered ecs p) 1 0) (cond (ltb p 8 || (leb 24 p && ltb p 32)) 1 0)) ≡ true

ecs_accepted : refusal_of 0x800 ecs ≡ no_refusal
unfolding refusal_of touches_silent plain_shape page_shape shares breaks_plain paged uses under bare holds any all made
ecs_accepted = refl

ecs_pages : pages ecs ≡ 2
unfolding pages used uses holds count any
ecs_pages = refl

ecs_entries : all 16 (λ y. eqb (flip_entry ecs 4 y) (cond (eqb y 1) 25 8)) ≡ true
unfolding flip_entry answering page_of used paged under uses holds count all any
ecs_entries = refl

ecs_ram : all 8 (λ k. eqb (mapping_at ecs 0 (0x40 + k)) k && eqb (permissions_at ecs 0 (0x40 + k)) 3) ≡ true
unfolding mapping_at permissions_at flippable flip_entry answering page_of used paged under uses holds count all any
ecs_ram = refl

ecs_page_0 : all 8 (λ k. eqb (mapping_at ecs 0 (0x48 + k)) (8 + k) && eqb (permissions_at ecs 0 (0x48 + k)) 0) ≡ true
unfolding mapping_at permissions_at flippable flip_entry answering page_of used paged under uses holds count all any
ecs_page_0 = refl

ecs_page_1 : all 8 (λ k. eqb (mapping_at ecs 1 (0x48 + k)) (24 + k) && eqb (permissions_at ecs 1 (0x48 + k)) 1) ≡ true
unfolding mapping_at permissions_at flippable flip_entry answering page_of used paged under uses holds count all any
ecs_page_1 = refl

ecs_covered : all 40 (λ p. eqb (cond (covered ecs p) 1 0) (cond (ltb p 8 || (leb 24 p && ltb p 32)) 1 0)) ≡ true
unfolding line_held slot_of_page pages nth used uses holds count all any
ecs_covered = refl

pub worked : Ecs
worked =
    record {
      accepted = ecs_accepted;
      pages = ecs_pages;
      entries = ecs_entries;
      ram = ecs_ram;
      page_0 = ecs_page_0;
      page_1 = ecs_page_1;
      covered = ecs_covered;
    }

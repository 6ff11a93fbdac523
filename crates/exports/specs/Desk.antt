-- Where a text stands, and what a salvage and going back answer, as C lays them out (02, W-204, W-208 and W-213).
use Rattle.std.specs.Prelude.{ℕ, Option, Some, None, Result, Ok, Err}
use Rattle.basics.specs.declared.Refusal.{Refusal}
use Rattle.lookup.specs.declared.Place.{Place}
use Rattle.lookup.specs.declared.Place.TheVariants.{Label, Image}
use Rattle.recovery.specs.Salvage.{Stopped, Nowhere, At, Salvaging}
use Rattle.unbuild.specs.declared.Unbuilding.{Unbuilding}
use Rattle.exports.specs.declared.desk.FoundText.{FoundText}
use Rattle.exports.specs.declared.desk.Salvaged.{Salvaged}
use Rattle.exports.specs.declared.desk.Unbuilt.{Unbuilt}

-- in no file, 0, in the label, 1, or in the image, 2
abbrev pub text_in : ℕ → ℕ → ℕ → FoundText
text_in file from to = record { number = 0; file = file; place = 0; from = from; to = to }

abbrev pub found_as : Result (Option Place) Refusal → FoundText
found_as (Ok None) = text_in 0 0 0
found_as (Ok (Some (Label x))) = text_in 1 x.from x.to
found_as (Ok (Some (Image x))) = text_in 2 x.from x.to
found_as (Err r) = record { number = r.number; file = 0; place = r.place; from = 0; to = 0 }

-- whether it stopped, 1 or 0, and where
abbrev pub salvaged_at : Salvaging → ℕ → ℕ → Salvaged
salvaged_at s stopped stop =
    record {
      number = s.refusal.number;
      stopped = stopped;
      place = s.refusal.place;
      length = s.length;
      kept = s.kept;
      dropped = s.dropped;
      stop = stop;
    }

abbrev pub stopped_as : Salvaging → Stopped → Salvaged
stopped_as s Nowhere = salvaged_at s 0 0
stopped_as s (At p) = salvaged_at s 1 p

abbrev pub salvaged_as : Salvaging → Salvaged
salvaged_as s = stopped_as s s.stopped

abbrev pub unbuilt_as : Unbuilding → Unbuilt
unbuilt_as u = record { number = u.refusal.number; place = u.refusal.place; bin = u.bin; cfg = u.cfg }

-- What building answers, as C lays it out (01, Numbers that come back).
use Rattle.build.specs.Building.{Building}
use Rattle.exports.specs.declared.Built.{Built}

abbrev pub built_as : Building → Built
built_as b = record { number = b.refusal.number; needed = b.needed; place = b.refusal.place; length = b.length }

-- The settings that a value of src/ stands for.
use Rattle.meaning.specs.Settings.{Settings as SettingsSaid, settings}
use Rattle.settings.specs.declared.Settings.{Settings}

abbrev pub said : Settings → SettingsSaid
said s = settings s.breaks s.prefix.now s.level

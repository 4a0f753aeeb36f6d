-- What the errors of a text are called where the text is a name.
use Rattle.iox_names.specs.declared.text_error.TextError.{TextError}
use Rattle.iox_names.specs.declared.text_error.TextError.TheVariants as text
use Rattle.iox_names.specs.declared.service_name_error.ServiceNameError.{ServiceNameError}
use Rattle.iox_names.specs.declared.service_name_error.ServiceNameError.TheVariants.{ExceedsMaximumLength, InvalidContent}

-- what an error of a text is called where the text is a service's name
abbrev pub of_text_error : TextError → ServiceNameError
of_text_error text.ExceedsMaximumLength = ExceedsMaximumLength
of_text_error text.InvalidContent = InvalidContent

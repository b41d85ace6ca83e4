mod Torn
